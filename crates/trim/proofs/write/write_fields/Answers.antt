-- The 16 bytes, one after another.
-- Assumes nothing.
use Rattle.std.proofs.Common.{List, ℕ, ◌+◌, ap, ◌∙◌, arith, slice_set, get_or}
use Rattle.trim.proofs.Cells.{sets_next, fields_stored}
use Rattle.trim.proofs.write.write_fields.Goals as goal

pub loop-i-preserved : goal.loop-i-preserved
loop-i-preserved c =
    let bytes = c.field_bytes.result in
    ap (λ (l : List ℕ). slice_set l (c.args.at + c.loop-i.i) (get_or bytes c.loop-i.i 0)) c.loop-i.invariant
    ∙ sets_next bytes c.args.out.now c.args.at c.loop-i.i
    (rw c.field_bytes.ensures c.loop-i-test.true)

pub returns : goal.returns
returns c =
    fields_stored c.args.out.now c.args.at c.loop-i.i c.args.f c.loop-i.invariant
    (rw c.field_bytes.ensures c.loop-i-test.false) c.field_bytes.ensures
    (record {
      a = omega arith;
      b = omega arith;
      c = omega arith;
      bytes10 = omega arith;
      value = omega arith;
    })
    c.requires

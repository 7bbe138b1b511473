-- A variable that remains is written as the next of both outputs.
-- Assumes nothing.
use Rattle.trim.proofs.Writing.{none_written, still_lent, one_written, none_more}
use Rattle.trim.proofs.write.write_survivors.Goals as goal
use Rattle.trim.proofs.write.write_survivors.Goals.{then-remains_at, else-remains_at}

pub loop-v-init : goal.loop-v-init
loop-v-init c =
    none_written _ _ c.args.certificate.now c.args.s.now c.args.trimmed.now c.args.numbers.now

pub write_survivor-requires-clause-k_in_bounds : goal.write_survivor-requires-clause-k_in_bounds
write_survivor-requires-clause-k_in_bounds c =
    let a = c.args in
    still_lent _ _ a.certificate.now a.s.now a.trimmed.now a.numbers.now c.loop-v.invariant
    c.loop-v-test.true c.remains_at.ensures c.if-remains_at.true c.requires.records_in_bounds.1
    c.requires.records_in_bounds.2

pub loop-v-preserved : goal.loop-v-preserved
loop-v-preserved c =
    let a = c.args in
    let next = c.remains_at.ensures in
    elim c.if-remains_at.branch [
      | then-remains_at w ↦
          rw (w.trimmed-is, w.numbers-is, w.k-is)
          (one_written _ _ a.certificate.now a.s.now a.trimmed.now a.numbers.now c.loop-v.invariant
          c.loop-v-test.true next w.if-remains_at.true w.write_survivor.ensures.record_written w.write_survivor.ensures.number_written)
      | else-remains_at w ↦
          rw (w.trimmed-is, w.numbers-is, w.k-is)
          (none_more _ _ a.certificate.now a.s.now a.trimmed.now a.numbers.now c.loop-v.invariant
          c.loop-v-test.true next w.if-remains_at.false)
    ]

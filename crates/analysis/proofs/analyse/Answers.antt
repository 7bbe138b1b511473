-- The order is copied behind the facts, and the certificate's facts are left in front.
-- Assumes nothing.
use Rattle.std.proofs.Common.{ℕ, ◌+◌, ◌*◌, ◌∙◌, get_or, ap, arith}
use Rattle.buffer.specs.Kept.{Kept}
use Rattle.buffer.proofs.Filled.{kept_trans, kept_wider, kept_behind}
use Rattle.buffer.proofs.Store.{stands_front}
use Rattle.analysis.specs.Laws.{words_laws}
use Rattle.analysis.proofs.Behind.{ready_behind}
use Rattle.analysis.proofs.analyse.Goals as goal

pub write_certificate-requires : goal.write_certificate-requires
write_certificate-requires c =
    let x = c.args in
    rw c.split_at_mut-facts.ensures.back
    (ready_behind c.copy_within.new.self c.requires c.copy_within.ensures.len
    (λ i h. c.copy_within.ensures.by_index.0 (x.table.now.records * 3 + i) 0 (omega arith) (omega arith)
    ∙ ap (λ (k : ℕ). get_or x.s.now k 0) (omega arith))
    c.split_at_mut-facts.ensures.front_len)

pub returns-clause-stands : goal.returns-clause-stands
returns-clause-stands c =
    let facts = c.write_certificate.ensures.holds in
    stands_front words_laws _ _ (omega (arith, facts.kept.long, c.split_at_mut-facts.ensures.front_len)) facts.stands

pub returns-clause-kept : goal.returns-clause-kept
returns-clause-kept c =
    let x = c.args in
    let parts = c.split_at_mut-facts.ensures in
    let left = c.write_certificate.ensures in
    let ready = c.requires in
    let copied : Kept (x.table.now.records * 5) x.s.now c.copy_within.new.self =
    record {
      long = c.copy_within.ensures.len;
      beyond = λ i l. c.copy_within.ensures.by_index.2 i 0 (omega (arith, ready.fits));
    } in
    kept_trans copied
    (kept_wider (omega arith)
    (kept_behind (x.table.now.records * 3) c.copy_within.new.self _ _ (omega (arith, ready.scratch_long, copied.long))
    (omega (arith, left.holds.kept.long, parts.front_len)) (rw parts.back at left.kept)))

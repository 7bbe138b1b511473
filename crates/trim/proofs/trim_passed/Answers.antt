-- What the kept variables reach is visited, the survivors are numbered and written, and the scratch is cleared.
-- Assumes nothing.
use Rattle.std.proofs.Common.{ℕ, ◌+◌, ◌*◌, drop, sym, ap, ◌∙◌, arith}
use mathlib.Core.List.{◌++◌, flat_map}
use Rattle.buffer.proofs.Filled.{part_cleared}
use Rattle.circuit.specs.Reading.{record_bytes}
use Rattle.circuit.specs.Tables.{circuit_of}
use Rattle.fact.specs.Fact.{fact_at}
use Rattle.trim.specs.Trimmed as definition
use Rattle.trim.specs.Promise.{room}
use Rattle.trim.proofs.Numbering.{numbered}
use Rattle.trim.proofs.Written.{numbers_outside, visits_stay, count_is, records_written, olds_written}
use Rattle.trim.proofs.trim_passed.Goals as goal

pub write_survivors-requires-clause-numbered : goal.write_survivors-requires-clause-numbered
write_survivors-requires-clause-numbered c =
    numbered _ _ _ _ (omega (arith, c.visit_reached.ensures.kept.long)) c.number_survivors-count.ensures.filled

pub returns-clause-value : goal.returns-clause-value
returns-clause-value c =
    let a = c.args in
    c.number_survivors-count.ensures.value
    ∙ count_is _ a.certificate.now a.kept.now _ c.visit_reached.ensures.visits_reached

pub returns-clause-trimmed_after : goal.returns-clause-trimmed_after
returns-clause-trimmed_after c =
    let a = c.args in
    let called = definition.replaced (circuit_of a.table.now) (fact_at a.certificate.now) in
    let visits = c.visit_reached.ensures.visits_reached in
    let after = visits_stay _ a.certificate.now a.kept.now _ c.number_survivors-count.ensures.filled visits in
    let count = c.number_survivors-count.ensures.value
    ∙ count_is _ a.certificate.now a.kept.now _ visits in
    records_written _ a.certificate.now a.kept.now _ after c.requires.trimmable.trimmed_lent
    c.write_survivors.ensures.records_written
    ∙ ap (λ (k : ℕ). flat_map record_bytes (definition.trimmed called a.kept.now)
    ++ drop (k * 16) a.trimmed.now) (sym count)

pub returns-clause-numbers_after : goal.returns-clause-numbers_after
returns-clause-numbers_after c =
    let a = c.args in
    let called = definition.replaced (circuit_of a.table.now) (fact_at a.certificate.now) in
    let visits = c.visit_reached.ensures.visits_reached in
    let after = visits_stay _ a.certificate.now a.kept.now _ c.number_survivors-count.ensures.filled visits in
    let count = c.number_survivors-count.ensures.value
    ∙ count_is _ a.certificate.now a.kept.now _ visits in
    olds_written _ a.certificate.now a.kept.now _ after c.requires.trimmable.numbers_lent
    c.write_survivors.ensures.numbers_written
    ∙ ap (λ (k : ℕ). definition.survivors called a.kept.now ++ drop k a.numbers.now) (sym count)

pub returns-clause-scratch_after : goal.returns-clause-scratch_after
returns-clause-scratch_after c =
    let a = c.args in
    part_cleared 0 (a.table.now.records + a.table.now.records) (a.table.now.records * room) a.scratch.now _ _
    (numbers_outside c.visit_reached.ensures.kept c.number_survivors-count.ensures.filled) (omega arith)
    c.requires.room_in_bounds c.clear.ensures

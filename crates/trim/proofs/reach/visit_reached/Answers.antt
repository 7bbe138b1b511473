-- The kept variables wait, and then all that they reach is visited.
-- Assumes nothing.
use Rattle.std.proofs.Common.{◌∙◌}
use Rattle.circuit.proofs.Tables.{circuit_length}
use Rattle.fact.specs.Fact.{fact_at}
use Rattle.trim.proofs.Replaced.{replaced_length, called_inside}
use Rattle.trim.proofs.Visiting.{visits_reached}
use Rattle.trim.proofs.reach.visit_reached.Goals as goal

pub visit_all-requires-clause-visiting : goal.visit_all-requires-clause-visiting
visit_all-requires-clause-visiting c =
    c.visit_kept-waiting.ensures.visiting _ (called_inside c.args.certificate.now c.args.table.now.checked)

pub returns-clause-visits_reached : goal.returns-clause-visits_reached
returns-clause-visits_reached c =
    let a = c.args in
    visits_reached
    (replaced_length _ (fact_at a.certificate.now) ∙ circuit_length a.table.now.bytes.now a.table.now.records)
    (called_inside a.certificate.now c.args.table.now.checked) c.visit_kept-waiting.ensures c.visit_all.ensures.spread
    c.visit_all.ensures.visiting_after

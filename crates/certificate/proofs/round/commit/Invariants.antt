-- The loop's invariant: the first j registers have their staged facts.
-- Assumes nothing.
use Rattle.buffer.specs.Store.{Moves}
use Rattle.fact.specs.Rule.{rule}
use Rattle.engine.specs.Plans.{circuit_of}
use Rattle.engine.proofs.Together.{together}
use Rattle.certificate.proofs.round.commit.Given as goal

abbrev pub invariant-loop-j : goal.invariant-loop-j
invariant-loop-j g l =
    let S = g.S.Store in
    let C = circuit_of l.plan in
    Moves S.layout l.plan.table.records (together C (rule C) l.j) (S.as_numbers l.fn.cells) (S.as_numbers l.cells)

-- The loop's invariant: the first k uses are visited.
-- Assumes nothing.
use Rattle.circuit.specs.Tables.{circuit_of}
use Rattle.fact.specs.Fact.{fact_at}
use Rattle.trim.specs.Trimmed.{replaced}
use Rattle.trim.proofs.Visiting.{UsesVisited}
use Rattle.trim.proofs.reach.visit_uses.Given as goal

abbrev pub invariant-loop-k : goal.invariant-loop-k
invariant-loop-k l =
    UsesVisited (replaced (circuit_of l.table) (fact_at l.certificate)) l.table.records l.v l.fn.s l.waiting l.s l.stacked l.k

-- The loop's invariant: what is visited has grown along uses, and the stack has all whose uses are not visited. The
-- measure is the variables that were not taken off the stack: none is twice.
-- Assumes nothing.
use Rattle.std.proofs.Common.{◌-◌}
use Rattle.circuit.specs.Tables.{circuit_of}
use Rattle.fact.specs.Fact.{fact_at}
use Rattle.trim.specs.Trimmed.{replaced}
use Rattle.trim.specs.Visits.{visited_count, Visiting, Spread}
use Rattle.trim.proofs.reach.visit_all.Given as goal

abbrev pub invariant-loop-stacked : goal.invariant-loop-stacked
invariant-loop-stacked l = record {
  visiting : Visiting (replaced (circuit_of l.table) (fact_at l.certificate)) l.table.records l.s l.stacked l.table.records;
  spread : Spread (replaced (circuit_of l.table) (fact_at l.certificate)) l.table.records l.fn.s l.s;
}

abbrev pub decreases-loop-stacked : goal.decreases-loop-stacked
decreases-loop-stacked l = l.table.records - (visited_count l.s l.table.records - l.stacked)

-- The loop's invariant: the kept variables so far are visited.
-- Assumes nothing.
use Rattle.trim.specs.Visits.{KeptVisited}
use Rattle.trim.proofs.reach.visit_kept.Given as goal

abbrev pub invariant-loop-u : goal.invariant-loop-u
invariant-loop-u l = KeptVisited l.n l.kept l.u-index l.fn.s l.s l.stacked

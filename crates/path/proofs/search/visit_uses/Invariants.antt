-- The loop's invariant: the uses so far are visited.
-- Assumes nothing.
use Rattle.path.proofs.Visits.{UsesVisited}
use Rattle.path.proofs.search.visit_uses.Given as goal

abbrev pub invariant-loop-u : goal.invariant-loop-u
invariant-loop-u l = UsesVisited l.table l.head l.tail l.u-items l.fn.s l.s l.queued l.u-index

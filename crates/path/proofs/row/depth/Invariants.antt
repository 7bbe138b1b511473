-- The loop's invariant: so many steps are made up from the place. The measure is the place that is come to.
-- Assumes nothing.
use Rattle.path.specs.Search.{parent}
use Rattle.path.proofs.Writing.{Climbed}
use Rattle.path.proofs.row.depth.Given as goal

abbrev pub invariant-loop-i : goal.invariant-loop-i
invariant-loop-i l = Climbed (parent l.n l.s) l.at l.i l.steps

abbrev pub decreases-loop-i : goal.decreases-loop-i
decreases-loop-i l = l.i

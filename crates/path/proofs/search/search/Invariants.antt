-- The loop's invariant: the search from v is under way, and those before the head are done. The measure is what is left
-- of the variables. A marked variable has a row, so the head never comes to the end of the queue.
-- Assumes nothing.
use Rattle.std.proofs.Common.{◌-◌}
use Rattle.path.proofs.Seeking.{Seeking}
use Rattle.path.proofs.search.search.Given as goal

abbrev pub invariant-loop-u : goal.invariant-loop-u
invariant-loop-u l = Seeking l.table l.v l.initial.s l.s l.head l.tail

abbrev pub decreases-loop-u : goal.decreases-loop-u
decreases-loop-u l = l.table.records - l.head

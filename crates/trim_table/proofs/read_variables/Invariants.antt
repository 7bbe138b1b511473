-- No more variables are read than there is room for.
use Rattle.std.proofs.Common.{length, ◌≤◌}
use Rattle.trim_table.proofs.read_variables.Given as goal

abbrev pub invariant-loop-i : goal.invariant-loop-i
invariant-loop-i g l = l.place ≤ length l.kept

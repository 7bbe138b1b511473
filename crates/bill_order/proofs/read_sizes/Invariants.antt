-- No more sizes are kept than there is room for.
use Rattle.std.proofs.Common.{length, ◌≤◌}
use Rattle.bill_order.proofs.read_sizes.Given as goal

abbrev pub invariant-loop-i : goal.invariant-loop-i
invariant-loop-i g l = l.kept ≤ length l.sizes

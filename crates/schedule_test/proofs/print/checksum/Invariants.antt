-- The sum is a remainder by 65,536.
use Rattle.std.proofs.Common.{◌<◌}
use Rattle.schedule_test.proofs.print.checksum.Given as goal

abbrev pub invariant-loop-x : goal.invariant-loop-x
invariant-loop-x l = l.sum < 65536

-- The remainder is below 8.
use Rattle.std.proofs.Common.{◌≤◌}
use Rattle.bench.proofs.read_rest.Given as goal

abbrev pub invariant-loop : goal.invariant-loop
invariant-loop g l = l.rest ≤ 7

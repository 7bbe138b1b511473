-- The loop's invariant: the facts of the variables before are good.
-- Assumes nothing.
use Rattle.std.proofs.Common.{◌≡◌, ℕ, ◌<◌, false}
use Rattle.circuit.specs.Tables.{circuit_of}
use Rattle.trim.proofs.Grounds.{bad_at}
use Rattle.trim.proofs.checks.check_facts.Given as goal

abbrev pub invariant-loop-v : goal.invariant-loop-v
invariant-loop-v l = (u : ℕ) → u < l.v → bad_at (circuit_of l.table) l.certificate u ≡ false

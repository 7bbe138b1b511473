-- The loop's invariant: what the scan finds is what it finds from record i on.
-- Assumes nothing.
use Rattle.std.proofs.Common.{◌≡◌, ◌-◌}
use Rattle.circuit.specs.Checks.{check_records_from, check_records}
use Rattle.circuit.proofs.checks.check_records.Given as goal

abbrev pub invariant-loop-i : goal.invariant-loop-i
invariant-loop-i l = check_records l.t l.n ≡ check_records_from l.t l.n (l.n - l.i) l.i

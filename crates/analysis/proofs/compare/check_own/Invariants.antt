-- The loop's invariant: what all variables meet is what those from v on meet.
-- Assumes nothing.
use Rattle.std.proofs.Common.{◌≡◌}
use Rattle.circuit.specs.declared.refusal.Ground.TheVariants.{ForeignCertificate}
use Rattle.circuit.specs.Refusal.{refuse_first}
use Rattle.analysis.proofs.Own.{differs, own_from}
use Rattle.analysis.proofs.compare.check_own.Given as goal

abbrev pub invariant-loop-v : goal.invariant-loop-v
invariant-loop-v l =
    refuse_first ForeignCertificate (differs l.certificate l.s) l.n 0 ≡ own_from l.n l.certificate l.s l.v

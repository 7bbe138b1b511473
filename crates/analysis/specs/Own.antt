-- Whether a certificate is a table's own: ground 24, over the 8 bytes of each variable.
-- Assumes nothing.
use Rattle.std.specs.Prelude.{Bool, not, List, ℕ, ◌+◌, ◌*◌, eqb, length, get_or}
use Rattle.net.specs.Tests.{all_below}
use Rattle.circuit.specs.declared.refusal.Ground.TheVariants.{ForeignCertificate}
use Rattle.circuit.specs.Refusal.{Check}
use Rattle.circuit.specs.Refusal.{refuse_first}
use Rattle.circuit.specs.Circuit.{Circuit}
use Rattle.fact.specs.Fact.{fact_bytes}
use Rattle.fact.specs.Certificate.{certificate}

-- the 8 bytes from a place on are these
unfoldable pub same_bytes : List ℕ → ℕ → List ℕ → Bool
unfolding all_below
same_bytes cells at bytes = all_below (λ m. eqb (get_or cells (at + m) 0) (get_or bytes m 0)) 8

-- ground 24: the first variable whose 8 bytes are not those that the circuit's certificate has for it
unfoldable pub check_own : Circuit → List ℕ → Check
unfolding refuse_first same_bytes certificate
check_own c cells =
    refuse_first ForeignCertificate (λ v. not (same_bytes cells (v * 8) (fact_bytes (certificate c v)))) (length c) 0

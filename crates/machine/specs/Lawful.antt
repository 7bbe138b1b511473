-- What the machine's values are by their laws, as a rule.
-- Assumes nothing.
use Rattle.std.specs.Prelude.{ℕ, List}
use Rattle.circuit.specs.Circuit.{circuit}
use Rattle.circuit.specs.Checks.{Checked}
use Rattle.circuit.specs.Machine.{values}
use Rattle.circuit.proofs.Tables.{circuit_inside}
use Rattle.circuit.proofs.Values.{values_local, values_agree}
use Rattle.engine.specs.Rules.{Lawful}

pub lawful : {t : List ℕ} {n : ℕ} → Checked t n → Lawful t n (values (circuit t n))
lawful {t} {n} table =
    record {
      local = values_local (circuit t n);
      agree = values_agree (circuit t n) (circuit_inside t n table.valid);
    }

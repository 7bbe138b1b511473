-- What the rule of facts is by its laws.
-- Assumes nothing.
use Rattle.std.specs.Prelude.{ℕ, List}
use Rattle.circuit.specs.Circuit.{circuit}
use Rattle.circuit.specs.Checks.{Checked}
use Rattle.circuit.proofs.Tables.{circuit_inside}
use Rattle.fact.specs.Rule.{rule}
use Rattle.fact.proofs.Certificate.{rules_local, rules_agree}
use Rattle.engine.specs.Rules.{Lawful}

pub lawful : {t : List ℕ} {n : ℕ} → Checked t n → Lawful t n (rule (circuit t n))
lawful {t} {n} table =
    record {
      local = rules_local (circuit t n);
      agree = rules_agree (circuit t n) (circuit_inside t n table.valid);
    }

-- A round's registers: their next facts, staged in the scratch behind the order as byte 0 of each, for contracts of
-- what works on them.
-- Assumes nothing.
use Rattle.std.specs.Prelude.{ℕ}
use Rattle.circuit.specs.Circuit.{Circuit}
use Rattle.fact.specs.declared.Fact.{Fact}
use Rattle.fact.specs.Fact.{fact_byte}
use Rattle.fact.specs.Rule.{rule}
use Rattle.engine.specs.Registers.{next_of}

-- byte 0 of register j's next fact
abbrev pub staged : Circuit → (ℕ → Fact) → ℕ → ℕ
staged c s j = fact_byte (next_of c (rule c) s j)

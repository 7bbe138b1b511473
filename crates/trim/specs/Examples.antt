-- Trimmed circuits and refusals, computed.
-- Assumes nothing.
use Rattle.std.specs.Prelude.{◌≡◌, refl, ℕ, get_or, set, take}
use mathlib.Core.List.{List, [], ◌∷◌, ◌++◌, flatten, flat_map, map}
use Rattle.circuit.specs.declared.record.InputKind.TheVariants.{Fixed, Free, Secret}
use Rattle.circuit.specs.declared.record.Record.TheVariants.{Input, Constant, Operator, Multiplexer, Register, Enabled}
use Rattle.circuit.specs.declared.operator.Operator.TheVariants.{Add, Equal}
use Rattle.circuit.specs.Reading.{record_bytes}
use Rattle.circuit.specs.Circuit.{Circuit, circuit}
use Rattle.circuit.specs.Faults.{told}
use Rattle.fact.specs.declared.Fact.{Fact}
use Rattle.fact.specs.declared.Fact.TheVariants.{Always, Open, Marked}
use Rattle.fact.specs.Fact.{fact_bytes}
use Rattle.fact.specs.Cases.{case_b}
use Rattle.fact.specs.Certificate.{certificate}
use Rattle.trim.specs.Trimmed.{replaced, survivors, trimmed}
use Rattle.trim.specs.Order.{check_kept, check_certificate, check_trim}

-- ---- trimmed circuits

-- case B, whose register 3, multiplexer 4 and sum 5 are always 0, 0 and 5, by its own certificate
abbrev block_b : Circuit
block_b = circuit (flatten case_b.records) 7

-- an enabled counter: a secret input that nothing uses (0), a free enable (1), the constant 3 (2), the sum of it and of
-- 4 (3), a register that takes the sum where the enable is not 0 (4), a multiplexer of 4 and 6 by the enable (5), and a
-- plain register that copies 4 (6)
abbrev counter : Circuit
counter =
    Input 8 Secret
    ∷ Input 1 Free
    ∷ Constant 8 3
    ∷ Operator 8 Add 4 2
    ∷ Enabled 8 3 1 0
    ∷ Multiplexer 8 1 4 6
    ∷ Register 8 4 0
    ∷ []

-- by some facts in order; a variable past them is open
abbrev by : List Fact → ℕ → Fact
by facts v = get_or facts v Open

-- what survives of a circuit under a store, by old number, and the records under their new ones
abbrev outcome : Circuit → (ℕ → Fact) → List ℕ → List ℕ × Circuit
outcome c s kept = (survivors (replaced c s) kept, trimmed (replaced c s) kept)

-- a register that is called always, kept: a constant, and nothing that fed it; a kept sum that is called always;
-- nothing kept; a kept input, twice
pub called_trimmed : map (outcome block_b (certificate block_b)) ((3 ∷ 6 ∷ []) ∷ (5 ∷ []) ∷ [] ∷ (1 ∷ 1 ∷ []) ∷ [])
    ≡ (
      0 ∷ 1 ∷ 2 ∷ 3 ∷ 6 ∷ [],
      Input 8 Secret ∷ Input 1 (Fixed 0) ∷ Constant 8 5 ∷ Constant 8 0 ∷ Operator 1 Equal 0 2 ∷ [],
    )
    ∷ (0 ∷ 1 ∷ 5 ∷ [], Input 8 Secret ∷ Input 1 (Fixed 0) ∷ Constant 8 5 ∷ [])
    ∷ (0 ∷ 1 ∷ [], Input 8 Secret ∷ Input 1 (Fixed 0) ∷ [])
    ∷ (0 ∷ 1 ∷ [], Input 8 Secret ∷ Input 1 (Fixed 0) ∷ [])
    ∷ []
unfolding flatten circuit certificate replaced survivors trimmed
called_trimmed = refl

-- nothing called always: the ring of the sum and its register is reached through the register; the sum called always,
-- by a certificate of another table; the constant called open and called another number; the enable, an input, called
-- always: it stays, and all three uses of the multiplexer remain
pub counter_trimmed : outcome counter (by []) (4 ∷ [])
    ∷ outcome counter (by (Marked ∷ Open ∷ Always 3 ∷ Always 9 ∷ [])) (4 ∷ [])
    ∷ outcome counter (by (Open ∷ Open ∷ Open ∷ [])) (2 ∷ [])
    ∷ outcome counter (by (Open ∷ Open ∷ Always 7 ∷ [])) (2 ∷ [])
    ∷ outcome counter (by (Open ∷ Always 1 ∷ Open ∷ Open ∷ Always 6 ∷ [])) (5 ∷ [])
    ∷ []
    ≡ (
      0 ∷ 1 ∷ 2 ∷ 3 ∷ 4 ∷ [],
      Input 8 Secret ∷ Input 1 Free ∷ Constant 8 3 ∷ Operator 8 Add 4 2 ∷ Enabled 8 3 1 0 ∷ [],
    )
    ∷ (0 ∷ 1 ∷ 3 ∷ 4 ∷ [], Input 8 Secret ∷ Input 1 Free ∷ Constant 8 9 ∷ Enabled 8 2 1 0 ∷ [])
    ∷ (0 ∷ 1 ∷ 2 ∷ [], Input 8 Secret ∷ Input 1 Free ∷ Constant 8 3 ∷ [])
    ∷ (0 ∷ 1 ∷ 2 ∷ [], Input 8 Secret ∷ Input 1 Free ∷ Constant 8 7 ∷ [])
    ∷ (
      0 ∷ 1 ∷ 4 ∷ 5 ∷ 6 ∷ [],
      Input 8 Secret ∷ Input 1 Free ∷ Constant 8 6 ∷ Multiplexer 8 1 2 4 ∷ Register 8 2 0 ∷ [],
    )
    ∷ []
unfolding replaced survivors trimmed
counter_trimmed = refl

-- its bytes: a record's 16, one after another
pub bytes_hold : flat_map record_bytes (Constant 8 258 ∷ Multiplexer 8 1 2 300 ∷ [])
    ≡ (1 ∷ 8 ∷ 0 ∷ 0 ∷ 0 ∷ 0 ∷ 0 ∷ 0 ∷ 0 ∷ 0 ∷ 0 ∷ 0 ∷ 2 ∷ 1 ∷ 0 ∷ 0 ∷ [])
    ++ (3 ∷ 8 ∷ 0 ∷ 0 ∷ 1 ∷ 0 ∷ 2 ∷ 0 ∷ 44 ∷ 1 ∷ 0 ∷ 0 ∷ 0 ∷ 0 ∷ 0 ∷ 0 ∷ [])
unfolding flat_map
bytes_hold = refl

-- ---- refusals

-- a constant of width 3 and an input of width 8, 32 bytes
abbrev pair : Circuit
pair = Constant 3 5 ∷ Input 8 Free ∷ []

-- their facts; what no one reads is not 0 in the second
abbrev facts : List ℕ
facts = fact_bytes (Always 7) ++ (2 ∷ 1 ∷ 1 ∷ 1 ∷ 0 ∷ 1 ∷ 0 ∷ 0 ∷ [])

-- what is found with these kept, this much lent for both outputs, and this certificate
abbrev found : List ℕ → ℕ → ℕ → List ℕ → List ℕ
found kept trimmed numbers cells = told (check_trim 32 pair cells kept trimmed numbers)

-- enough of all, and kept numbers up to the last; 20, 21 and 22 each alone, at their limits; of several the first
pub refusals_hold : found [] 32 2 facts
    ∷ found (1 ∷ 0 ∷ 1 ∷ []) 33 3 facts
    ∷ found (1 ∷ 2 ∷ 65535 ∷ []) 32 2 facts
    ∷ found [] 31 2 facts
    ∷ found [] 32 1 facts
    ∷ found [] 32 2 (take 15 facts)
    ∷ found [] 32 2 (facts ++ (0 ∷ []))
    ∷ found [] 32 2 (set facts 0 0)
    ∷ found [] 32 2 (set facts 8 4)
    ∷ found [] 32 2 (set facts 4 8)
    ∷ found [] 32 2 (set facts 8 1)
    ∷ found [] 32 2 (set (set facts 8 1) 13 0)
    ∷ found (2 ∷ []) 31 2 (set facts 0 0)
    ∷ found (1 ∷ []) 31 2 (set facts 0 0)
    ∷ found (1 ∷ []) 32 2 (set (set facts 8 0) 4 8)
    ∷ []
    ≡ []
    ∷ []
    ∷ (20 ∷ 1 ∷ [])
    ∷ (21 ∷ 0 ∷ [])
    ∷ (21 ∷ 0 ∷ [])
    ∷ (22 ∷ 0 ∷ [])
    ∷ (22 ∷ 0 ∷ [])
    ∷ (22 ∷ 0 ∷ [])
    ∷ (22 ∷ 1 ∷ [])
    ∷ (22 ∷ 0 ∷ [])
    ∷ (22 ∷ 1 ∷ [])
    ∷ []
    ∷ (20 ∷ 0 ∷ [])
    ∷ (21 ∷ 0 ∷ [])
    ∷ (22 ∷ 0 ∷ [])
    ∷ []
unfolding check_kept check_certificate
refusals_hold = refl

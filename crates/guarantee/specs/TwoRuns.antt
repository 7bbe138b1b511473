-- Demand 3 over the bytes and numbers that three calls write: which two lists of stimuli are compared, and what a
-- certificate claims of the values in which their runs end.
-- Assumes nothing.
use Rattle.std.specs.Prelude.{◌≡◌, ◌⊎◌, List, ℕ, ◌+◌, ◌*◌, ◌/◌, ◌<◌, length, get_or}
use Rattle.circuit.specs.Number.{u16_at, u32_at}

-- variable v of the table is a secret input: its record's byte 0 is 0 and its byte 2 is 2
abbrev pub SecretInput : List ℕ → ℕ → Type 0
SecretInput t v = (get_or t (v * 16) 0 ≡ 0) × (get_or t (v * 16 + 2) 0 ≡ 2)

-- both stimuli at a place tick
abbrev pub BothTick : List ℕ → List ℕ → ℕ → Type 0
BothTick s s' at = (get_or s at 0 ≡ 1) × (get_or s' at 0 ≡ 1)

-- both stimuli at a place poke the same variable with the same value; only into a secret input may the values differ
pub record BothPoke (t s s' : List ℕ) (at : ℕ) : Type 0 where
  pub pokes : (get_or s at 0 ≡ 0) × (get_or s' at 0 ≡ 0)
  pub same_variable : u16_at s (at + 2) ≡ u16_at s' (at + 2)
  pub same_value : (u32_at s (at + 4) ≡ u32_at s' (at + 4)) ⊎ SecretInput t (u16_at s (at + 2))

-- two lists, equally long: at each place both tick, or both poke alike
pub record AlikeStimuli (t s s' : List ℕ) : Type 0 where
  pub equally_long : length s ≡ length s'
  pub alike : (i : ℕ) → i < length s / 8 → BothTick s s' (i * 8) ⊎ BothPoke t s s' (i * 8)

-- what a certificate's 8 bytes of variable v claim of its values in two runs: called always or open they are the same,
-- and called always both are the certified number
pub record ClaimHolds (certificate values values' : List ℕ) (v : ℕ) : Type 0 where
  pub same : (get_or certificate (v * 8) 0 ≡ 1) ⊎ (get_or certificate (v * 8) 0 ≡ 2) → get_or values v 0 ≡ get_or values' v 0
  pub number : get_or certificate (v * 8) 0 ≡ 1
      → (get_or values v 0 ≡ u32_at certificate (v * 8 + 4)) × (get_or values' v 0 ≡ u32_at certificate (v * 8 + 4))

-- the claim at every variable of the table
abbrev pub ClaimsHold : List ℕ → List ℕ → List ℕ → List ℕ → Type 0
ClaimsHold t certificate values values' = (v : ℕ) → v < length t / 16 → ClaimHolds certificate values values' v

-- What is claimed of a trimmed table, over the bytes and numbers that four calls write: a table is certified, and
-- trimmed by that certificate; a list of stimuli runs on it, and the list with its pokes renumbered on the trimmed one.
-- Assumes nothing.
use Rattle.std.specs.Prelude.{◌≡◌, ◌⊎◌, List, [], ◌∷◌, ◌++◌, ℕ, ◌+◌, ◌*◌, ◌/◌, ◌%◌, ◌<◌, length, get_or, Result, Ok}
use Rattle.net.specs.Net.{list_below}
use Rattle.circuit.specs.declared.refusal.Refusal.{Refusal}
use Rattle.circuit.specs.Number.{u16_at, u32_at, u16_bytes}

-- the stimulus at a place but for bytes 2 and 3, its variable: byte 0, byte 1 and the value are as they were
pub record SameButVariable (s s' : List ℕ) (at : ℕ) : Type 0 where
  pub kind : get_or s' at 0 ≡ get_or s at 0
  pub byte1 : get_or s' (at + 1) 0 ≡ get_or s (at + 1) 0
  pub value : u32_at s' (at + 4) ≡ u32_at s (at + 4)

-- the stimulus at a place ticks, and its variable is as it was
abbrev pub TickStays : List ℕ → List ℕ → ℕ → Type 0
TickStays s s' at = (get_or s at 0 ≡ 1) × (u16_at s' (at + 2) ≡ u16_at s (at + 2))

-- it pokes: its variable is now a number below k, of which the list of old numbers says the variable that it was
pub record PokeRenumbered (numbers : List ℕ) (k : ℕ) (s s' : List ℕ) (at : ℕ) : Type 0 where
  pub poke : get_or s at 0 ≡ 0
  pub below : u16_at s' (at + 2) < k
  pub old : get_or numbers (u16_at s' (at + 2)) 0 ≡ u16_at s (at + 2)

-- the list s with its pokes renumbered is s'
pub record RenumberedStimuli (numbers : List ℕ) (k : ℕ) (s s' : List ℕ) : Type 0 where
  pub equally_long : length s' ≡ length s
  pub same : (i : ℕ) → i < length s / 8 → SameButVariable s s' (i * 8)
  pub variables : (i : ℕ) → i < length s / 8 → TickStays s s' (i * 8) ⊎ PokeRenumbered numbers k s s' (i * 8)

-- the variable of the stimulus at a place, where it pokes by its new number
abbrev pub renumbered_variable : (ℕ → ℕ) → List ℕ → ℕ → ℕ
renumbered_variable new s at = get_or (new (u16_at s (at + 2)) ∷ []) (get_or s at 0) (u16_at s (at + 2))

-- its 8 bytes with that variable
abbrev pub renumbered_at : (ℕ → ℕ) → List ℕ → ℕ → List ℕ
renumbered_at new s at =
    (get_or s at 0 ∷ get_or s (at + 1) 0 ∷ [])
    ++ u16_bytes (renumbered_variable new s at)
    ++ (get_or s (at + 4) 0 ∷ get_or s (at + 5) 0 ∷ get_or s (at + 6) 0 ∷ get_or s (at + 7) 0 ∷ [])

-- the list with its pokes renumbered, by the new number of each variable; byte m is byte m % 8 of its stimulus
unfoldable pub renumbered : (ℕ → ℕ) → List ℕ → List ℕ
unfolding list_below
renumbered new s = list_below (λ m. get_or (renumbered_at new s (m / 8 * 8)) (m % 8) 0) (length s)

-- the lines of k variables of a trimmed table, 8 bytes each: those that the certificate has for their old ones
unfoldable pub survivor_lines : List ℕ → ℕ → List ℕ → List ℕ
unfolding list_below
survivor_lines numbers k certificate =
    list_below (λ m. get_or certificate (get_or numbers (m / 8) 0 * 8 + m % 8) 0) (k * 8)

-- every number of a list is a byte
abbrev pub AllBytes : List ℕ → Type 0
AllBytes s = (m : ℕ) → m < length s → get_or s m 0 < 256

-- what is claimed of the answer r and of the values in which both runs end
pub record TrimmedAlike (kept numbers : List ℕ) (k : ℕ) (values values' : List ℕ)
    (r : Result Unit Refusal) : Type 0 where
  -- the list is accepted on the trimmed table
  pub accepted : r ≡ Ok tt
  -- every variable of the trimmed table holds what its old one holds
  pub same : (j : ℕ) → j < k → get_or values' j 0 ≡ get_or values (get_or numbers j 0) 0
  -- every kept variable is the old one of a variable of the trimmed table, which holds the same
  pub kept_same : (i : ℕ) → i < length kept
      → (j : ℕ) × (j < k) × (get_or numbers j 0 ≡ get_or kept i 0) × (get_or values' j 0 ≡ get_or values (get_or kept i 0) 0)

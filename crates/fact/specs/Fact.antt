-- Document 01's facts: their order, join and narrowing, and their bytes.
-- Assumes nothing.
use Rattle.std.specs.Prelude.{Bool, true, false, cond, List, [], ◌∷◌, ℕ, ◌+◌, ◌*◌, ◌%◌, ◌^◌, eqb, get_or}
use Rattle.circuit.specs.Number.{u32_at, u32_bytes}
use Rattle.fact.specs.declared.Fact.{Fact}
use Rattle.fact.specs.declared.Fact.TheVariants.{Always, Open, Marked}

infix 40 ◌⊑◌
-- at or below: always n lies below open, open below marked, and two different numbers are not ordered
pub data ◌⊑◌ : Fact → Fact → Type 0 where
  itself : {x : Fact} → x ⊑ x
  always_open : {n : ℕ} → Always n ⊑ Open
  always_marked : {n : ℕ} → Always n ⊑ Marked
  open_marked : Open ⊑ Marked

-- whether two facts are the same
unfoldable pub same : Fact → Fact → Bool
same (Always m) (Always n) = eqb m n
same (Always m) Open = false
same (Always m) Marked = false
same Open (Always n) = false
same Open Open = true
same Open Marked = false
same Marked (Always n) = false
same Marked Open = false
same Marked Marked = true

-- document 01's join: the lowest fact at or above both
abbrev pub join : Fact → Fact → Fact
join (Always m) (Always n) = cond (eqb m n) (Always m) Open
join (Always m) Open = Open
join (Always m) Marked = Marked
join Open (Always n) = Open
join Open Open = Open
join Open Marked = Marked
join Marked g = Marked

-- document 01's narrow, to width w: always n becomes always (n mod 2^w), the others stay
abbrev pub narrow : ℕ → Fact → Fact
narrow w (Always n) = Always (n % 2 ^ w)
narrow w Open = Open
narrow w Marked = Marked

-- document 01's number of each fact, byte 0 of its 8 bytes
abbrev pub fact_byte : Fact → ℕ
fact_byte (Always n) = 1
fact_byte Open = 2
fact_byte Marked = 3

-- n for always, else 0
abbrev pub fact_number : Fact → ℕ
fact_number (Always n) = n
fact_number Open = 0
fact_number Marked = 0

-- the 8 bytes of a fact in a certificate
abbrev pub fact_bytes : Fact → List ℕ
fact_bytes f = fact_byte f ∷ 0 ∷ 0 ∷ 0 ∷ u32_bytes (fact_number f)

-- the fact of a byte 0 and a number
abbrev pub fact_of : ℕ → ℕ → Fact
fact_of byte n = get_or (Marked ∷ Always n ∷ Open ∷ []) byte Marked

-- the fact that a certificate's bytes give variable v
abbrev pub fact_at : List ℕ → ℕ → Fact
fact_at cells v = fact_of (get_or cells (v * 8) 0) (u32_at cells (v * 8 + 4))

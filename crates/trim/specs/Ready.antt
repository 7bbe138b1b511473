-- What the passes of trimming work with beside a checked table: a certificate that ground 22 lets pass, room for both
-- outputs, and which variables remain. Each is one premise of a contract.
-- Assumes nothing.
use Rattle.std.specs.Prelude.{◌≡◌, Bool, not, ◌||◌, List, ℕ, ◌+◌, ◌*◌, ◌^◌, ◌≤◌, ◌<◌, eqb, length, get_or}
use Rattle.net.specs.Chosen.{place_of}
use Rattle.circuit.specs.Record.{width, input_of}
use Rattle.circuit.specs.Circuit.{Circuit, record_of}
use Rattle.circuit.specs.Stimuli.{is_input}
use Rattle.fact.specs.declared.Fact.{Fact}
use Rattle.fact.specs.declared.Fact.TheVariants.{Always, Open, Marked}
use Rattle.fact.specs.Fact.{fact_at}

-- a fact fits a width: the number of always does
abbrev pub FactFits : ℕ → Fact → Type 0
FactFits w (Always m) = m < 2 ^ w
FactFits w Open = Unit {0}
FactFits w Marked = Unit {0}

-- what is known of a checked table where none of grounds 20 to 22 holds: the kept variables are its variables, so much
-- is lent for the trimmed table and for the old numbers, and the certificate has a fact a variable, which fits it
pub record Trimmable (c : Circuit) (n : ℕ) (certificate kept : List ℕ) (trimmed numbers : ℕ) : Type 0 where
  pub kept_below : (i : ℕ) → i < length kept → get_or kept i 0 < n
  pub trimmed_lent : n * 16 ≤ trimmed
  pub numbers_lent : n ≤ numbers
  pub certificate_long : length certificate ≡ n * 8
  pub fits : (v : ℕ) → v < n → FactFits (width (record_of c v)) (fact_at certificate v)

-- v remains: it is an input, or it is visited, where a flag that is not 0 stands at place v of the scratch
abbrev pub remains : Circuit → List ℕ → ℕ → Bool
remains c s v = is_input (input_of (record_of c v)) || not (eqb (get_or s v 0) 0)

-- behind the flags of the n variables stands the number of each among those that remain
pub record Numbered (c : Circuit) (n : ℕ) (s : List ℕ) : Type 0 where
  pub room : n + n ≤ length s
  pub number : (v : ℕ) → v < n → get_or s (n + v) 0 ≡ place_of (remains c s) v

-- Request S-8's row: from a marked variable to a secret input, each marked and a use of the one before, the shortest,
-- and of equally short ones the one with the lowest number at each step.
-- Assumes nothing.
use Rattle.std.specs.Prelude.{◌≡◌, Bool, true, false, cond, List, [], ◌∷◌, ℕ, ◌+◌, ◌-◌, ◌≤◌, ◌<◌, T, eqb, length, get_or}
use Rattle.net.specs.Tests.{member}
use Rattle.circuit.specs.declared.record.Record.{Record}
use Rattle.circuit.specs.declared.record.Record.TheVariants.{Input, Constant, Operator, Multiplexer, Register, Enabled}
use Rattle.circuit.specs.Record.{input_of}
use Rattle.circuit.specs.Circuit.{Circuit, record_of}
use Rattle.fact.specs.declared.Fact.{Fact}
use Rattle.fact.specs.declared.Fact.TheVariants.{Always, Open, Marked}
use Rattle.fact.specs.TwoRuns.{is_secret}

-- what a multiplexer uses, by its control's fact: the control and the arm taken where that is always a number, else the
-- control and both arms
abbrev pub multiplexer_uses : Fact → ℕ → ℕ → ℕ → List ℕ
multiplexer_uses (Always n) a b c = a ∷ cond (eqb n 0) c b ∷ []
multiplexer_uses Open a b c = a ∷ b ∷ c ∷ []
multiplexer_uses Marked a b c = a ∷ b ∷ c ∷ []

-- the variables that a record uses under a store: an arm passed over by an always control is not a use
abbrev pub uses_under : (ℕ → Fact) → Record → List ℕ
uses_under s (Input w k) = []
uses_under s (Constant w n) = []
uses_under s (Operator w op a b) = a ∷ b ∷ []
uses_under s (Multiplexer w a b c) = multiplexer_uses (s a) a b c
uses_under s (Register w a n) = a ∷ []
uses_under s (Enabled w a b n) = a ∷ b ∷ []

-- whether a fact is marked
abbrev pub is_marked : Fact → Bool
is_marked (Always n) = false
is_marked Open = false
is_marked Marked = true

-- whether a variable is a secret input
abbrev pub secret : Circuit → ℕ → Bool
secret c v = is_secret (input_of (record_of c v))

module _ (c : Circuit) (s : ℕ → Fact) where
  -- v uses u under the store
  abbrev pub Under : ℕ → ℕ → Type 0
  Under v u = T (member u (uses_under s (record_of c v)))

  -- a row of marked variables from v to a secret input, both among it, each a use of the one before
  pub record Row (v : ℕ) (row : List ℕ) : Type 0 where
    pub some : 0 < length row
    pub first : get_or row 0 0 ≡ v
    pub marked : (i : ℕ) → i < length row → (get_or row i 0 < length c) × (s (get_or row i 0) ≡ Marked)
    pub next : (i : ℕ) → i + 1 < length row → Under (get_or row i 0) (get_or row (i + 1) 0)
    pub last : T (secret c (get_or row (length row - 1) 0))

  -- every other such row has at least as many, and where one has as many and is the same before place i, the number at
  -- place i is at most its number there
  pub record PathOf (v : ℕ) (row : List ℕ) : Type 0 where
    pub is_row : Row v row
    pub shortest : (other : List ℕ) → Row v other → length row ≤ length other
    pub lowest : (other : List ℕ) → Row v other → length other ≡ length row → (i : ℕ) → i < length row
        → ((j : ℕ) → j < i → get_or other j 0 ≡ get_or row j 0) → get_or row i 0 ≤ get_or other i 0

-- A net over any type of values: how its wires settle, what a round is, and how many rounds there are.
-- Document 01's store gives each variable a fact; here a store gives it a value of any type, past the net's size too,
-- where it means nothing. The net of facts gives the certificate, the net of numbers is the bench machine.
-- Assumes nothing.
use Rattle.std.specs.Prelude.{◌≡◌, Bool, List, [], ◌∷◌, eqb}
use Rattle.std.proofs.Math.Bool.{true, false}
use Prim.Native.Nat.{ℕ, zero, suc, ◌+◌, ◌<◌}
use Rattle.net.specs.Tests.{all_below}

-- what a variable is; document 01's wires are its constants, operators and multiplexers
pub data Role : Type 0 where
  input wire register : Role

-- how many variables there are, what each is, and which variables each uses
pub record Graph : Type 0 where
  pub size : ℕ
  pub role : ℕ → Role
  pub uses : ℕ → List ℕ

-- the sum of h over the numbers below n
unfoldable pub sum_below : (ℕ → ℕ) → ℕ → ℕ
sum_below h zero = zero
sum_below h (suc n) = h n + sum_below h n

-- the sum over the registers of a number that each has
unfoldable pub sum_registers : Graph → (ℕ → ℕ) → ℕ
unfolding sum_below
sum_registers g h = sum_below (λ v. elim (g.role v) [ input ↦ zero | wire ↦ zero | register ↦ h v ]) g.size

-- the values of the variables below n, in order
unfoldable pub list_below : {A : Type 0} → (ℕ → A) → ℕ → List A
list_below s zero = []
list_below s (suc n) = s zero ∷ list_below (λ v. s (suc v)) n

-- the store with x at variable i
unfoldable pub put : {A : Type 0} → (ℕ → A) → ℕ → A → ℕ → A
put s i x v = elim (eqb v i) [ true ↦ x | false ↦ s v ]

-- `f s v` is what variable v gets from the store s. Sweeps and steps leave inputs as they are.
module _ {A : Type 0} (g : Graph) (f : (ℕ → A) → ℕ → A) where
  -- every wire takes its value from the same store; the others stay
  unfoldable pub sweep : (ℕ → A) → ℕ → A
  sweep s v = elim (g.role v) [ input ↦ s v | wire ↦ f s v | register ↦ s v ]

  -- the store after k sweeps
  unfoldable pub sweeps : ℕ → (ℕ → A) → ℕ → A
  unfolding sweep
  sweeps zero s = s
  sweeps (suc k) s = sweep (sweeps k s)

  -- The wires follow from inputs and registers: in a net without a loop, as many sweeps as there are variables are
  -- enough, and settling gives the one store that satisfies every wire.
  unfoldable pub settle : (ℕ → A) → ℕ → A
  unfolding sweeps
  settle s = sweeps g.size s

  -- every register takes its value from the same store, all together; the others stay
  unfoldable pub step : (ℕ → A) → ℕ → A
  step s v = elim (g.role v) [ input ↦ s v | wire ↦ s v | register ↦ f s v ]

  -- document 01's round: the registers together, and then the wires again
  unfoldable pub round : (ℕ → A) → ℕ → A
  unfolding step settle
  round s = settle (step s)

  -- the store after k rounds
  unfoldable pub after : ℕ → (ℕ → A) → ℕ → A
  unfolding round
  after zero s = s
  after (suc k) s = after k (round s)

  module _ (same : A → A → Bool) where
    -- v is no register, or the next round leaves it as it is
    unfoldable pub unchanged : (ℕ → A) → ℕ → Bool
    unfolding round
    unchanged s v = elim (g.role v) [ input ↦ true | wire ↦ true | register ↦ same (round s v) (s v) ]

    -- the next round changes no register
    unfoldable pub still : (ℕ → A) → Bool
    unfolding unchanged all_below
    still s = all_below (unchanged s) g.size

    -- document 01's count: the rounds before the first that changes no register; `limit` where the first `limit`
    -- rounds all change one
    unfoldable pub count : ℕ → (ℕ → A) → ℕ
    unfolding still round
    count zero s = zero
    count (suc limit) s = elim (still s) [ true ↦ zero | false ↦ suc (count limit (round s)) ]

    -- the store in which the rounds stop
    unfoldable pub stopped : ℕ → (ℕ → A) → ℕ → A
    unfolding count after
    stopped limit s = after (count limit s) s

  -- every wire of the store satisfies its record
  abbrev pub Settled : (ℕ → A) → Type 0
  Settled s = (v : ℕ) → v < g.size → g.role v ≡ wire → s v ≡ f s v

  -- every variable of the store holds what its rule gives
  abbrev pub Fixpoint : (ℕ → A) → Type 0
  Fixpoint s = (v : ℕ) → v < g.size → s v ≡ f s v

  -- document 01's closed: every variable of the store is at or above what its rule gives from that store
  abbrev pub Closed : (A → A → Type 0) → (ℕ → A) → Type 0
  Closed le s = (v : ℕ) → v < g.size → le (f s v) (s v)

  -- document 01's least closed store: closed, and at every variable at or below every closed one
  abbrev pub Least : (A → A → Type 0) → (ℕ → A) → Type 0
  Least le s = Closed le s × ((c : ℕ → A) → Closed le c → (v : ℕ) → v < g.size → le (s v) (c v))

  -- the next round changes no register
  abbrev pub Still : (ℕ → A) → Type 0
  Still s = (v : ℕ) → v < g.size → g.role v ≡ register → round s v ≡ s v

  -- the next round changes a register
  abbrev pub Changing : (ℕ → A) → Type 0
  Changing s = (v : ℕ) × (v < g.size) × (g.role v ≡ register) × (round s v ≡ s v → ⊥)

  -- document 01's count, as a property of k: the round after k changes no register, and every earlier one changes some
  pub record Counts (s : ℕ → A) (k : ℕ) : Type 0 where
    pub stops : Still (after k s)
    pub before : (j : ℕ) → j < k → Changing (after j s)

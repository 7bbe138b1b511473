-- A net without a loop settles: its wires reach the one store that satisfies their rules, whatever its inputs and
-- registers hold. All of it, and what later files show of stores, is one induction along a rank of the wires.
-- Assumes nothing.
use mathlib.Core.Path.{◌≡◌, refl, sym, ◌∙◌}
use Prim.Native.Nat.{ℕ, zero, suc, ◌<◌}
use native.Mathlib.Nat.{not-suc-le-zero, le_of_suc-le-suc, lt_of_lt_of_le, le_refl}
use native.Mathlib.Omega.{arith}
use Rattle.net.specs.Net.{Graph, Role, input, wire, register, sweep, sweeps, settle, step, Settled}
use Rattle.net.specs.Loop.{Uses}

pub by_role {ℓ} : {P : Type ℓ} (k : Role) → (k ≡ input → P) → (k ≡ wire → P) → (k ≡ register → P) → P
by_role input a b c = a refl
by_role wire a b c = b refl
by_role register a b c = c refl

pub input_wire {ℓ} : {P : Type ℓ} → input ≡ wire → P
input_wire e = let z : ◌≡◌ {A = ℕ} 0 1 = cc in absurd (omega arith)

pub input_register {ℓ} : {P : Type ℓ} → input ≡ register → P
input_register e = let z : ◌≡◌ {A = ℕ} 0 1 = cc in absurd (omega arith)

pub wire_register {ℓ} : {P : Type ℓ} → wire ≡ register → P
wire_register e = let z : ◌≡◌ {A = ℕ} 0 1 = cc in absurd (omega arith)

-- ---- one sweep, one step

module _ {A : Type 0} (g : Graph) (f : (ℕ → A) → ℕ → A) (s : ℕ → A) (v : ℕ) where
  sweep_wire : g.role v ≡ wire → sweep g f s v ≡ f s v
  unfolding sweep
  sweep_wire e = rw (e, sweep)

  sweep_input : g.role v ≡ input → sweep g f s v ≡ s v
  unfolding sweep
  sweep_input e = rw (e, sweep)

  sweep_register : g.role v ≡ register → sweep g f s v ≡ s v
  unfolding sweep
  sweep_register e = rw (e, sweep)

  pub step_input : g.role v ≡ input → step g f s v ≡ s v
  unfolding step
  step_input e = rw (e, step)

  pub step_wire : g.role v ≡ wire → step g f s v ≡ s v
  unfolding step
  step_wire e = rw (e, step)

  pub step_register : g.role v ≡ register → step g f s v ≡ f s v
  unfolding step
  step_register e = rw (e, step)

module _ {A : Type 0} (g : Graph) (f : (ℕ → A) → ℕ → A) (s : ℕ → A) (v : ℕ) where
  sweeps_input : (k : ℕ) → g.role v ≡ input → sweeps g f k s v ≡ s v
  unfolding sweeps
  sweeps_input zero e = refl
  sweeps_input (suc k) e = sweep_input g f (sweeps g f k s) v e ∙ sweeps_input k e

  sweeps_register : (k : ℕ) → g.role v ≡ register → sweeps g f k s v ≡ s v
  unfolding sweeps
  sweeps_register zero e = refl
  sweeps_register (suc k) e = sweep_register g f (sweeps g f k s) v e ∙ sweeps_register k e

  pub settle_input : g.role v ≡ input → settle g f s v ≡ s v
  unfolding settle
  settle_input e = sweeps_input g.size e

  pub settle_register : g.role v ≡ register → settle g f s v ≡ s v
  unfolding settle
  settle_register e = sweeps_register g.size e

-- ---- what is asked of the graph and of the rule

-- Every use is a variable of the net, and there is no loop: a rank of the wires falls along each use of a wire by a
-- wire.
pub record Ranked (g : Graph) : Type 0 where
  pub inside : (v u : ℕ) → v < g.size → Uses g v u → u < g.size
  pub rank : ℕ → ℕ
  pub small : (v : ℕ) → v < g.size → g.role v ≡ wire → rank v < g.size
  pub falls : (v u : ℕ) → v < g.size → g.role v ≡ wire → g.role u ≡ wire → Uses g v u → rank u < rank v

-- what a wire gets depends on what it uses, and on nothing else
abbrev pub Local : {A : Type 0} → Graph → ((ℕ → A) → ℕ → A) → Type 0
Local {A} g f =
    (s t : ℕ → A) (v : ℕ) → v < g.size → g.role v ≡ wire → ((u : ℕ) → Uses g v u → s u ≡ t u) → f s v ≡ f t v

-- what holds of the net's inputs and registers, and of a wire where it holds of all that the wire uses, holds of
-- every variable
pub by_rank : {g : Graph} (r : Ranked g) (P : ℕ → Type 0)
    → ((v : ℕ) → v < g.size → g.role v ≡ input → P v)
    → ((v : ℕ) → v < g.size → g.role v ≡ register → P v)
    → ((v : ℕ) → v < g.size → g.role v ≡ wire → ((u : ℕ) → Uses g v u → P u) → P v)
    → (v : ℕ) → v < g.size → P v
by_rank {g} r P at-input at_register at-wire v h =
    by_role (g.role v) (at-input v h) (λ e. go (suc (r.rank v)) v h e (le_refl _)) (at_register v h)
  where
    go : (k v : ℕ) → v < g.size → g.role v ≡ wire → r.rank v < k → P v
    go zero v h e below = absurd (not-suc-le-zero below)
    go (suc k) v h e below =
        at-wire v h e
        (λ u x. by_role (g.role u) (at-input u (r.inside v u h x))
        (λ d. go k u (r.inside v u h x) d (lt_of_lt_of_le (r.falls v u h e d x) (le_of_suc-le-suc below)))
        (at_register u (r.inside v u h x)))

-- ---- the settled store

module _ {A : Type 0} {g : Graph} (r : Ranked g) (f : (ℕ → A) → ℕ → A) (loc : Local g f) where
  -- after k sweeps every wire whose rank is below k satisfies its rule
  after_sweeps : (s : ℕ → A) (k v : ℕ) → v < g.size → g.role v ≡ wire → r.rank v < k
      → sweeps g f k s v ≡ f (sweeps g f k s) v
  unfolding sweeps
  after_sweeps s zero v h e below = absurd (not-suc-le-zero below)
  after_sweeps s (suc k) v h e below =
      sweep_wire g f (sweeps g f k s) v e
      ∙ loc (sweeps g f k s) (sweep g f (sweeps g f k s)) v h e
      (λ u x. by_role (g.role u)
      (λ d. sym (sweep_input g f (sweeps g f k s) u d))
      (λ d. after_sweeps s k u (r.inside v u h x) d (lt_of_lt_of_le (r.falls v u h e d x) (le_of_suc-le-suc below))
      ∙ sym (sweep_wire g f (sweeps g f k s) u d))
      (λ d. sym (sweep_register g f (sweeps g f k s) u d)))

  -- settling satisfies every wire
  pub settle_settled : (s : ℕ → A) → Settled g f (settle g f s)
  unfolding settle
  settle_settled s v h e = after_sweeps s g.size v h e (r.small v h e)

  -- two settled stores with the same inputs and registers are the same
  pub settled_unique : (s t : ℕ → A) → Settled g f s → Settled g f t
      → ((v : ℕ) → v < g.size → g.role v ≡ input → s v ≡ t v)
      → ((v : ℕ) → v < g.size → g.role v ≡ register → s v ≡ t v)
      → (v : ℕ) → v < g.size → s v ≡ t v
  settled_unique s t hs ht a b =
      by_rank r (λ v. s v ≡ t v) a b (λ v h e ih. hs v h e ∙ loc s t v h e ih ∙ sym (ht v h e))

  -- and settling is the only way to satisfy every wire
  pub settle_unique : (s t : ℕ → A) → Settled g f t
      → ((v : ℕ) → v < g.size → g.role v ≡ input → t v ≡ s v)
      → ((v : ℕ) → v < g.size → g.role v ≡ register → t v ≡ s v)
      → (v : ℕ) → v < g.size → t v ≡ settle g f s v
  settle_unique s t ht a b =
      settled_unique t (settle g f s) ht (settle_settled s)
      (λ v h e. a v h e ∙ sym (settle_input g f s v e))
      (λ v h e. b v h e ∙ sym (settle_register g f s v e))

-- ---- stores that agree on the net's variables

abbrev pub Agree : {A : Type 0} → Graph → (ℕ → A) → (ℕ → A) → Type 0
Agree g s t = (v : ℕ) → v < g.size → s v ≡ t v

-- The rounds stop, at the least closed store, after no more rounds than the registers' heights allow.
-- What is asked of the order, the rule and the heights are premises, so that another lattice or rule proves those anew
-- and nothing else.
-- Assumes nothing.
use mathlib.Core.Path.{◌≡◌, refl, sym, ap, ◌∙◌, subst}
use mathlib.Core.Bool.{Bool, true, false, not}
use Prim.Native.Nat.{ℕ, zero, suc, ◌+◌, ◌≤◌, ◌<◌}
use native.Mathlib.Nat.{not-suc-le-zero, le_refl, le_of_eq}
use native.Mathlib.Decide.{dec_lt}
use native.Mathlib.Omega.{arith}
use lib.Dec.{T}
use Rattle.net.specs.Net.{Graph, input, wire, register, settle, step, round, after, unchanged, still, count, stopped, sum_registers, Settled, Fixpoint, Closed, Still, Changing, Counts}
use Rattle.net.specs.Loop.{Uses}
use Rattle.net.proofs.Bools.{T_of, of_T, true_false, all_at, fails_below}
use Rattle.net.proofs.Sums.{sum_mono, sum_strict}
use Rattle.net.proofs.Settle.{by_role, by_rank, Ranked, Local, step_input, step_register, settle_settled, settle_input, settle_register}

-- What is asked of an order and a rule. `first` gives what inputs and registers hold before any round. A wire's rule
-- depends on what it uses; a register's may depend on its own value too.
pub record Monotone {A : Type 0} (g : Graph) (le : A → A → Type 0) (f : (ℕ → A) → ℕ → A)
    (first : ℕ → A) : Type 0 where
  pub reflexive : (x : A) → le x x
  pub transitive : (x y z : A) → le x y → le y z → le x z
  pub local : Local g f
  pub wires : (s t : ℕ → A) (v : ℕ) → v < g.size → g.role v ≡ wire → ((u : ℕ) → Uses g v u → le (s u) (t u))
      → le (f s v) (f t v)
  pub registers : (s t : ℕ → A) (v : ℕ) → v < g.size → g.role v ≡ register → ((u : ℕ) → Uses g v u → le (s u) (t u))
      → le (s v) (t v) → le (f s v) (f t v)
  pub inputs : (s : ℕ → A) (v : ℕ) → v < g.size → g.role v ≡ input → f s v ≡ first v
  pub power_on_lem : (s : ℕ → A) (v : ℕ) → v < g.size → g.role v ≡ register → le (first v) (f s v)

-- What is asked of a test of equality, and of heights that bound how often a register can rise.
pub record Heights {A : Type 0} (g : Graph) (le : A → A → Type 0) (f : (ℕ → A) → ℕ → A) (same : A → A → Bool)
    (most : ℕ → ℕ) : Type 0 where
  pub same_eq : (x y : A) → same x y ≡ true → x ≡ y
  pub same_refl : (x : A) → same x x ≡ true
  pub height : A → ℕ
  pub rises : (x y : A) → le x y → same y x ≡ false → height x < height y
  pub capped : (s : ℕ → A) (v : ℕ) → v < g.size → g.role v ≡ register → height (f s v) ≤ most v

-- ---- what the count is, for any net

module _ {A : Type 0} (g : Graph) (f : (ℕ → A) → ℕ → A) where
  -- one more round, at the end
  pub after_suc : (k : ℕ) (s : ℕ → A) → after g f (suc k) s ≡ round g f (after g f k s)
  unfolding after
  after_suc zero s = refl
  after_suc (suc k) s = after_suc k (round g f s)

  module _ (same : A → A → Bool) where
    count_stop : (limit : ℕ) (s : ℕ → A) → still g f same s ≡ true → count g f same (suc limit) s ≡ 0
    unfolding count
    count_stop limit s e = rw (e, count)

    count_more : (limit : ℕ) (s : ℕ → A) → still g f same s ≡ false
        → count g f same (suc limit) s ≡ suc (count g f same limit (round g f s))
    unfolding count
    count_more limit s e = rw (e, count)

    -- no earlier round is still
    count_before : (limit j : ℕ) (s : ℕ → A) → j < count g f same limit s → still g f same (after g f j s) ≡ false
    unfolding after count
    count_before zero j s h = absurd (not-suc-le-zero h)
    count_before (suc limit) zero s h = go (still g f same s) refl
      where
        go : (b : Bool) → still g f same s ≡ b → still g f same s ≡ false
        go true e = absurd (omega (arith, count_stop limit s e, h))
        go false e = e
    count_before (suc limit) (suc j) s h = go (still g f same s) refl (count_before limit j (round g f s))
      where
        go : (b : Bool) → still g f same s ≡ b
            → (j < count g f same limit (round g f s) → still g f same (after g f j (round g f s)) ≡ false)
            → still g f same (after g f j (round g f s)) ≡ false
        go true e ih = absurd (omega (arith, count_stop limit s e, h))
        go false e ih = ih (omega (arith, count_more limit s e, h))

    unchanged_input : (s : ℕ → A) (v : ℕ) → g.role v ≡ input → unchanged g f same s v ≡ true
    unfolding unchanged
    unchanged_input s v d = rw (d, unchanged)

    unchanged_wire : (s : ℕ → A) (v : ℕ) → g.role v ≡ wire → unchanged g f same s v ≡ true
    unfolding unchanged
    unchanged_wire s v d = rw (d, unchanged)

    unchanged_register : (s : ℕ → A) (v : ℕ) → g.role v ≡ register
        → unchanged g f same s v ≡ same (round g f s v) (s v)
    unfolding unchanged
    unchanged_register s v d = rw (d, unchanged)

-- ---- the rounds of a monotone rule on a net without a loop

module _ {A : Type 0} {g : Graph} {le : A → A → Type 0} {f : (ℕ → A) → ℕ → A} {first : ℕ → A}
    (r : Ranked g) (M : Monotone g le f first) where
  round_input : (s : ℕ → A) (v : ℕ) → g.role v ≡ input → round g f s v ≡ s v
  unfolding round
  round_input s v e = settle_input g f (step g f s) v e ∙ step_input g f s v e

  round_register : (s : ℕ → A) (v : ℕ) → g.role v ≡ register → round g f s v ≡ f s v
  unfolding round
  round_register s v e = settle_register g f (step g f s) v e ∙ step_register g f s v e

  round_settled : (s : ℕ → A) → Settled g f (round g f s)
  unfolding round
  round_settled s = settle_settled r f M.local (step g f s)

  -- a store that the rounds can reach: settled, with its inputs as they were first, and its registers on the way up
  pub record Rising (s : ℕ → A) : Type 0 where
    pub settled : Settled g f s
    pub inputs : (v : ℕ) → v < g.size → g.role v ≡ input → s v ≡ first v
    pub registers : (v : ℕ) → v < g.size → g.role v ≡ register → le (s v) (f s v)

  -- settled stores are ordered if their inputs and registers are
  settled_le : (s t : ℕ → A) → Settled g f s → Settled g f t
      → ((v : ℕ) → v < g.size → g.role v ≡ input → le (s v) (t v))
      → ((v : ℕ) → v < g.size → g.role v ≡ register → le (s v) (t v))
      → (v : ℕ) → v < g.size → le (s v) (t v)
  settled_le s t hs ht a b =
      by_rank r (λ v. le (s v) (t v)) a b (λ v h e ih. rw (hs v h e, ht v h e) (M.wires s t v h e ih))

  -- a settled store is below a closed one if its inputs and registers are
  settled_closed : (s c : ℕ → A) → Settled g f s → Closed g f le c
      → ((v : ℕ) → v < g.size → g.role v ≡ input → le (s v) (c v))
      → ((v : ℕ) → v < g.size → g.role v ≡ register → le (s v) (c v))
      → (v : ℕ) → v < g.size → le (s v) (c v)
  settled_closed s c hs hc a b =
      by_rank r (λ v. le (s v) (c v)) a b
      (λ v h e ih. rw (hs v h e) (M.transitive _ _ _ (M.wires s c v h e ih) (hc v h)))

  -- before any round
  abbrev start : ℕ → A
  start = settle g f first

  start_rising : Rising start
  start_rising =
      record {
        settled = settle_settled r f M.local first;
        inputs = λ v h e. settle_input g f first v e;
        registers = λ v h e. rw (settle_register g f first v e) (M.power_on_lem start v h e);
      }

  round_above : (s : ℕ → A) → Rising s → (v : ℕ) → v < g.size → le (s v) (round g f s v)
  round_above s up =
      settled_le s (round g f s) up.settled (round_settled s)
      (λ v h e. rw (round_input s v e) (M.reflexive _))
      (λ v h e. rw (round_register s v e) (up.registers v h e))

  round_rising : (s : ℕ → A) → Rising s → Rising (round g f s)
  round_rising s up =
      record {
        settled = round_settled s;
        inputs = λ v h e. round_input s v e ∙ up.inputs v h e;
        registers = λ v h e.
            rw (round_register s v e)
            (M.registers s (round g f s) v h e (λ u x. round_above s up u (r.inside v u h x))
            (round_above s up v h));
      }

  after_rising : (k : ℕ) (s : ℕ → A) → Rising s → Rising (after g f k s)
  unfolding after
  after_rising zero s up = up
  after_rising (suc k) s up = after_rising k (round g f s) (round_rising s up)

  -- ---- below every closed store

  module _ (c : ℕ → A) (closed : Closed g f le c) where
    start_below : (v : ℕ) → v < g.size → le (start v) (c v)
    start_below =
        settled_closed start c start_rising.settled closed
        (λ v h e. rw (start_rising.inputs v h e, ← M.inputs c v h e) (closed v h))
        (λ v h e. rw (settle_register g f first v e) (M.transitive _ _ _ (M.power_on_lem c v h e) (closed v h)))

    round_below : (s : ℕ → A) → Rising s → ((v : ℕ) → v < g.size → le (s v) (c v)) → (v : ℕ) → v < g.size
        → le (round g f s v) (c v)
    round_below s up below =
        settled_closed (round g f s) c (round_settled s) closed
        (λ v h e. rw (round_input s v e) (below v h))
        (λ v h e. rw (round_register s v e)
        (M.transitive _ _ _ (M.registers s c v h e (λ u x. below u (r.inside v u h x)) (below v h)) (closed v h)))

    after_below : (k : ℕ) (s : ℕ → A) → Rising s → ((v : ℕ) → v < g.size → le (s v) (c v)) → (v : ℕ) → v < g.size
        → le (after g f k s v) (c v)
    unfolding after
    after_below zero s up below = below
    after_below (suc k) s up below = after_below k (round g f s) (round_rising s up) (round_below s up below)

    -- every store of the rounds, the one in which they stop among them, is below every closed one
    pub rounds_below : (k v : ℕ) → v < g.size → le (after g f k start v) (c v)
    rounds_below k = after_below k start start_rising start_below

  -- ---- the count

  module _ {same : A → A → Bool} {most : ℕ → ℕ} (H : Heights g le f same most) where
    weight : (ℕ → A) → ℕ
    weight s = sum_registers g (λ v. H.height (s v))

    height_le : (x y : A) → le x y → H.height x ≤ H.height y
    height_le x y h = go (same y x) refl
      where
        go : (b : Bool) → same y x ≡ b → H.height x ≤ H.height y
        go true e = le_of_eq (ap H.height (sym (H.same_eq y x e)))
        go false e = omega (arith, H.rises x y h e)

    -- a round that changes a register raises the weight
    heavier : (s : ℕ → A) → Rising s → still g f same s ≡ false → weight s < weight (round g f s)
    unfolding still weight sum_registers
    heavier s up e =
        sum_strict _ _ (unchanged g f same s) g.size
        (λ v h. by_role (g.role v) (λ d. rw d (le_refl _)) (λ d. rw d (le_refl _))
        (λ d. rw d (height_le _ _ (round_above s up v h))))
        (λ v h q. by_role (g.role v)
        (λ d. true_false (sym (unchanged_input g f same s v d) ∙ q))
        (λ d. true_false (sym (unchanged_wire g f same s v d) ∙ q))
        (λ d. rw d (H.rises _ _ (round_above s up v h) (sym (unchanged_register g f same s v d) ∙ q))))
        e

    -- and no round raises it past what the registers' heights allow
    capped : (s : ℕ → A) → weight (round g f s) ≤ sum_registers g most
    unfolding weight sum_registers
    capped s =
        sum_mono _ _ g.size
        (λ v h. by_role (g.role v) (λ d. rw d (le_refl _)) (λ d. rw d (le_refl _))
        (λ d. rw (d, round_register s v d) (H.capped s v h d)))

    -- where no register is changed the test says so, and where it doesn't a register is changed
    still_sound : (s : ℕ → A) → still g f same s ≡ true → Still g f s
    unfolding still
    still_sound s e v h d =
        H.same_eq _ _ (sym (unchanged_register g f same s v d) ∙ of_T _
        (all_at (unchanged g f same s) g.size (T_of _ e) v h))

    changing : (s : ℕ → A) → still g f same s ≡ false → Changing g f s
    unfolding still
    changing s e = find (fails_below (unchanged g f same s) g.size (rw e tt))
      where
        passed : (v : ℕ) → unchanged g f same s v ≡ true → T (not (unchanged g f same s v)) → Changing g f s
        passed v q t = absurd (rw q at t)

        find : (v : ℕ) × (v < g.size) × T (not (unchanged g f same s v)) → Changing g f s
        find (v, h, t) =
            by_role (g.role v) (λ d. passed v (unchanged_input g f same s v d) t)
            (λ d. passed v (unchanged_wire g f same s v d) t)
            (λ d. (v, h, d, λ q. passed_same d q))
          where
            passed_same : g.role v ≡ register → round g f s v ≡ s v → ⊥
            passed_same d q =
                absurd (rw (unchanged_register g f same s v d ∙ ap (λ x. same x (s v)) q ∙ H.same_refl (s v)) at t)

    -- with a limit for the weight that is still to be gained, the rounds stop
    count_still : (limit : ℕ) (s : ℕ → A) → Rising s → sum_registers g most ≤ limit + weight s
        → still g f same (after g f (count g f same limit s) s) ≡ true
    unfolding count after
    count_still zero s up h = go (still g f same s) refl
      where
        go : (b : Bool) → still g f same s ≡ b → still g f same (after g f (count g f same zero s) s) ≡ true
        go true e = e
        go false e = absurd (omega (arith, heavier s up e, capped s))
    count_still (suc limit) s up h =
        go (still g f same s) refl (λ k. count_still limit (round g f s) (round_rising s up) k)
      where
        go : (b : Bool) → still g f same s ≡ b
            → (sum_registers g most ≤ limit + weight (round g f s)
            → still g f same (after g f (count g f same limit (round g f s)) (round g f s)) ≡ true)
            → still g f same (after g f (count g f same (suc limit) s) s) ≡ true
        go true e ih = rw (count_stop g f same limit s e) e
        go false e ih = rw (count_more g f same limit s e) (ih (omega (arith, heavier s up e)))

    -- every round that is counted raises the weight
    count_weight : (limit : ℕ) (s : ℕ → A) → Rising s
        → count g f same limit s + weight s ≤ weight (after g f (count g f same limit s) s)
    unfolding count after
    count_weight zero s up = omega arith
    count_weight (suc limit) s up = go (still g f same s) refl (count_weight limit (round g f s) (round_rising s up))
      where
        go : (b : Bool) → still g f same s ≡ b
            → count g f same limit (round g f s) + weight (round g f s) ≤ weight
            (after g f (count g f same limit (round g f s)) (round g f s))
            → count g f same (suc limit) s + weight s ≤ weight (after g f (count g f same (suc limit) s) s)
        go true e ih = rw (count_stop g f same limit s e) (omega arith)
        go false e ih = rw (count_more g f same limit s e) (omega (arith, ih, heavier s up e))

    -- The count is at most what the registers' heights allow, whatever the limit.
    pub count_few : (limit : ℕ) → count g f same limit start ≤ sum_registers g most
    count_few limit = go (count g f same limit start) refl
      where
        go : (k : ℕ) → count g f same limit start ≡ k → count g f same limit start ≤ sum_registers g most
        go zero e = omega arith
        go (suc j) e =
            omega (
              arith,
              rw e at (count_weight limit start start_rising),
              rw (← after_suc g f j start) at
                  (capped (after g f j start)),
            )

    -- The round after the count changes no register, and every earlier one changes some.
    pub count_counts : (limit : ℕ) → sum_registers g most ≤ limit → Counts g f start (count g f same limit start)
    count_counts limit h =
        record {
          stops = still_sound _ (count_still limit start start_rising (omega arith));
          before = λ j below. changing _ (count_before g f same limit j start below);
        }

    -- The store in which the rounds stop is a fixpoint.
    pub stopped_fixpoint : (limit : ℕ) → sum_registers g most ≤ limit → Fixpoint g f (stopped g f same limit start)
    unfolding stopped
    stopped_fixpoint limit h v below =
        by_role (g.role v)
        (λ d. up.inputs v below d ∙ sym (M.inputs _ v below d))
        (λ d. up.settled v below d)
        (λ d. sym ((count_counts limit h).stops v below d) ∙ round_register _ v d)
      where
        up : Rising (after g f (count g f same limit start) start)
        up = after_rising (count g f same limit start) start start_rising

    -- A fixpoint is closed.
    pub fixpoint_closed : (s : ℕ → A) → Fixpoint g f s → Closed g f le s
    fixpoint_closed s fixed v h = subst (le (f s v)) (sym (fixed v h)) (M.reflexive (f s v))

-- ---- at most one number counts the rounds

pub counts_unique : {A : Type 0} (g : Graph) (f : (ℕ → A) → ℕ → A) (s : ℕ → A) (j k : ℕ) → Counts g f s j
    → Counts g f s k → j ≡ k
counts_unique g f s j k p q =
    elim (dec_lt j k) [
      | yes l ↦ absurd (never p q l)
      | no l ↦ elim (dec_lt k j) [ yes h ↦ absurd (never q p h) | no h ↦ omega arith ]
    ]
  where
    never : {i h : ℕ} → Counts g f s i → Counts g f s h → i < h → ⊥
    never {i} stops changes l =
        let (v, below, is_register_lem, changed) = changes.before i l in
        changed (stops.stops v below is_register_lem)

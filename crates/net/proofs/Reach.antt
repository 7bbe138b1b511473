-- As many steps as there are variables are enough: what the kept variables reach is closed under uses, and within
-- every property that is. A step that adds no variable leaves the set closed, and one that adds some makes it larger,
-- which can't happen more often than there are variables.
-- Assumes nothing.
use mathlib.Core.Path.{◌≡◌, refl}
use mathlib.Core.Logic.{◌⊎◌, inl, inr, ⊎_elim}
use mathlib.Core.Bool.{Bool, true, false, not, cond, ◌&&◌, ◌||◌}
use mathlib.Core.List.{List}
use Prim.Native.Nat.{ℕ, zero, suc, ◌≤◌, ◌<◌, zero-le}
use native.Mathlib.Nat.{le_refl}
use native.Mathlib.Omega.{arith}
use lib.Dec.{T}
use lib.ListN.{get_or-eq_default}
use Rattle.net.specs.Tests.{any_below, all_below, member}
use Rattle.net.specs.Net.{Graph, list_below, sum_below}
use Rattle.net.specs.Loop.{Uses}
use Rattle.net.specs.Reach.{is_in, spread, spreads, reached_set, ClosedUnderUses}
use Rattle.net.proofs.Cases.{by_le}
use Rattle.net.proofs.Bools.{T_of, true_false, not_both, and_left, and_right, and_both}
use Rattle.net.proofs.Bools.{or_cases, or_left, or_right, all_at, passes_below, any_of}
use Rattle.net.proofs.Sums.{sum_mono, sum_strict, sum_one}
use Rattle.net.proofs.Lists.{length_list_below, get_or_list_below}

-- ---- a set that is given by a test

module _ (p : ℕ → Bool) (n v : ℕ) where
  in_below : T (is_in (list_below p n) v) → v < n
  in_below t =
      by_le n v
      (λ k. absurd (rw (get_or-eq_default (list_below p n) false {n = v} (rw (length_list_below p n) k)) at t))
      (λ k. k)

  in_passes : T (is_in (list_below p n) v) → T (p v)
  in_passes t = rw (get_or_list_below p n v false (in_below t)) at t

  in_of : v < n → T (p v) → T (is_in (list_below p n) v)
  in_of h t = rw (get_or_list_below p n v false h) t

-- ---- counting by tests

at_most_one : (b : Bool) → cond b 1 0 ≤ 1
at_most_one true = le_refl _
at_most_one false = zero-le

no_fewer : (a b : Bool) → (T a → T b) → cond a 1 0 ≤ cond b 1 0
no_fewer false b h = zero-le
no_fewer true false h = absurd (h tt)
no_fewer true true h = le_refl _

one_more : (a b : Bool) → (a || not b) ≡ false → cond a 1 0 < cond b 1 0
one_more true b e = true_false e
one_more false false e = true_false e
one_more false true e = le_refl _

module _ (g : Graph) where
  -- every variable that a variable in the set uses is in it
  abbrev Closed : List Bool → Type 0
  Closed set = (v u : ℕ) → v < g.size → T (is_in set v) → u < g.size → Uses g v u → T (is_in set u)

  -- how many variables are in the set
  members : List Bool → ℕ
  members set = sum_below (λ v. cond (is_in set v) 1 0) g.size

  members_most : (set : List Bool) → members set ≤ g.size
  unfolding members
  members_most set =
      omega (
        arith,
        sum_mono (λ v. cond (is_in set v) 1 0) (λ v. 1) g.size
            (λ v h. at_most_one (is_in set v)),
        sum_one g.size,
      )

  -- ---- one step

  module _ (set : List Bool) where
    -- a variable in the set uses v
    abbrev used : ℕ → Bool
    used v = any_below (λ u. is_in set u && member v (g.uses u)) g.size

    abbrev in_or_used : ℕ → Bool
    in_or_used v = is_in set v || used v

    -- what is in the set after the step was in it, or is used by what was
    spread_cases : {P : Type 0} (v : ℕ) → T (is_in (spread g set) v) → (T (is_in set v) → P)
        → ((u : ℕ) → u < g.size → T (is_in set u) → Uses g u v → P) → P
    unfolding spread
    spread_cases v t a b =
        or_cases (is_in set v) (used v) (in_passes in_or_used g.size v t) a
        (λ k.
        let (u, h, q) = passes_below (λ u. is_in set u && member v (g.uses u)) g.size k in
        b u h (and_left (is_in set u) (member v (g.uses u)) q) (and_right (is_in set u) (member v (g.uses u)) q))

    spread_keeps : (v : ℕ) → v < g.size → T (is_in set v) → T (is_in (spread g set) v)
    unfolding spread
    spread_keeps v h t = in_of in_or_used g.size v h (or_left (is_in set v) (used v) t)

    spread_uses : (v u : ℕ) → v < g.size → T (is_in set v) → u < g.size → Uses g v u → T (is_in (spread g set) u)
    unfolding spread
    spread_uses v u h t k m =
        in_of in_or_used g.size u k
        (or_right (is_in set u) (used u)
        (any_of (λ v. is_in set v && member u (g.uses v)) g.size v h
        (and_both (is_in set v) (member u (g.uses v)) t m)))

    spread_closed : Closed set → Closed (spread g set)
    spread_closed c v u h t k m =
        spread_cases v t (λ q. spread_uses v u h q k m) (λ w l q m'. spread_uses v u h (c w v l q h m') k m)

    -- the step doesn't add v
    abbrev old : ℕ → Bool
    old v = is_in set v || not (is_in (spread g set) v)

    -- the set is closed, or the step makes it larger
    closed_or_grows : Closed set ⊎ (members set < members (spread g set))
    unfolding members
    closed_or_grows = go (all_below old g.size) refl
      where
        go : (b : Bool) → all_below old g.size ≡ b → Closed set ⊎ (members set < members (spread g set))
        go true e =
            inl (λ v u h q k m. or_cases (is_in set u) (not (is_in (spread g set) u))
            (all_at old g.size (T_of _ e) u k) (λ d. d)
            (λ d. not_both (is_in (spread g set) u) (spread_uses v u h q k m) d))
        go false e =
            inr (sum_strict (λ v. cond (is_in set v) 1 0) (λ v. cond (is_in (spread g set) v) 1 0) old g.size
            (λ v h. no_fewer (is_in set v) (is_in (spread g set) v) (spread_keeps v h))
            (λ v h q. one_more (is_in set v) (is_in (spread g set) v) q) e)

  -- ---- all steps

  -- each step that leaves the set open has added a variable
  closed_or_many : (set : List Bool) (k : ℕ) → Closed (spreads g k set) ⊎ (k < members (spreads g (suc k) set))
  unfolding spreads
  closed_or_many set zero = ⊎_elim inl (λ h. inr (omega arith)) (closed_or_grows set)
  closed_or_many set (suc k) =
      ⊎_elim (λ c. inl (spread_closed (spreads g k set) c))
      (λ h. ⊎_elim inl (λ l. inr (omega arith)) (closed_or_grows (spreads g (suc k) set)))
      (closed_or_many set k)

  spreads_keep : (set : List Bool) (k v : ℕ) → v < g.size → T (is_in set v) → T (is_in (spreads g k set) v)
  unfolding spreads
  spreads_keep set zero v h t = t
  spreads_keep set (suc k) v h t = spread_keeps (spreads g k set) v h (spreads_keep set k v h t)

  module _ (kept : List ℕ) where
    -- before any step
    abbrev kept_set : List Bool
    kept_set = list_below (λ v. member v kept) g.size

    spreads_below : (k v : ℕ) → T (is_in (spreads g k kept_set) v) → v < g.size
    unfolding spreads spread
    spreads_below zero v t = in_below (λ v. member v kept) g.size v t
    spreads_below (suc k) v t = in_below (in_or_used (spreads g k kept_set)) g.size v t

    -- the kept variables are reached, and what a reached one uses is
    pub reached_closed : ClosedUnderUses g kept (λ v. T (is_in (reached_set g kept) v))
    unfolding reached_set
    reached_closed =
        record {
          has = λ v h m. spreads_keep kept_set g.size v h (in_of (λ v. member v kept) g.size v h m);
          closed = λ v u h t k m. ⊎_elim (λ c. c v u h t k m)
              (λ l. absurd (omega (arith, members_most (spreads g (suc g.size) kept_set))))
              (closed_or_many kept_set g.size);
        }

    spreads_least : (P : ℕ → Type 0) → ClosedUnderUses g kept P → (k v : ℕ) → T (is_in (spreads g k kept_set) v) → P v
    unfolding spreads
    spreads_least P c zero v t = c.has v (spreads_below zero v t) (in_passes (λ v. member v kept) g.size v t)
    spreads_least P c (suc k) v t =
        spread_cases (spreads g k kept_set) v t (spreads_least P c k v)
        (λ u h q m. c.closed u v h (spreads_least P c k u q) (spreads_below (suc k) v t) m)

    -- nothing more is reached: every property that the kept variables have and that is closed under uses has it
    pub reached_least : (P : ℕ → Type 0) → ClosedUnderUses g kept P → (v : ℕ) → T (is_in (reached_set g kept) v) → P v
    unfolding reached_set
    reached_least P c v t = spreads_least P c g.size v t

-- The loops over the way from a place of the queue up to its beginning: the steps counted, and the variables written
-- from the last to the first.
-- Assumes nothing.
use mathlib.Core.Path.{◌≡◌, sym, ap, ◌∙◌}
use mathlib.Core.List.{List, ◌++◌}
use Prim.Native.Nat.{ℕ, zero, suc, ◌+◌, ◌-◌, ◌≤◌, ◌<◌}
use native.Mathlib.Nat.{not-suc-le-zero, le_refl}
use native.Mathlib.Omega.{arith}
use lib.ListN.{length, get_or, set, drop, length-set, length-append, length-drop, get_or-append}
use lib.Seq.{ext_get_or, get_or-set_same, get_or-set_other, get_or-append-add, get_or-drop}
use Rattle.net.proofs.Cases.{by_le, by_same}
use Rattle.path.specs.Search.{Depth, root, below, chain}
use Rattle.path.proofs.Chain.{chain_length, chain_before, chain_end, depth_parent}

-- ---- the steps counted

-- `steps` steps up from place `at` is place i
pub record Climbed (p : ℕ → ℕ) (at i steps : ℕ) : Type 0 where
  pub most : steps + i ≤ at
  pub deep : (e : ℕ) → Depth p i e → Depth p at (steps + e)

module _ {p : ℕ → ℕ} {at i steps : ℕ} (climbed : Climbed p at i steps) where
  pub climbed_more : {up : ℕ} → 0 < i → p i < i → up ≡ p i → Climbed p at up (steps + 1)
  climbed_more some falls e =
      record {
        most = omega (arith, climbed.most);
        deep = λ k d.
            let same : steps + 1 + k ≡ steps + suc k = omega arith in
            rw same (climbed.deep (suc k) (below some (rw e at d)));
      }

  pub climbed_all : i ≤ 0 → Depth p at steps × (steps ≤ at)
  climbed_all h =
      let z : i ≡ 0 = omega arith in
      let same : steps + 0 ≡ steps = omega arith in
      (rw same at (climbed.deep 0 (rw z root)), omega (arith, climbed.most))

-- ---- the variables written

-- The way of `steps` steps to place `at` is that of k steps to place i and those behind it, which stand in the row.
-- What lies past them is as it was.
pub record Written (q p : ℕ → ℕ) (at steps : ℕ) (entry row : List ℕ) (i k : ℕ) : Type 0 where
  pub low : i ≤ at
  pub most : k ≤ steps
  pub deep : Depth p i k
  pub same : (j : ℕ) → j ≤ k → get_or (chain q p steps at) j 0 ≡ get_or (chain q p k i) j 0
  pub long : length row ≡ length entry
  pub here : (j : ℕ) → k < j → j ≤ steps → get_or row j 0 ≡ get_or (chain q p steps at) j 0
  pub beyond : (j : ℕ) → steps < j → get_or row j 0 ≡ get_or entry j 0

module _ {q p : ℕ → ℕ} {at steps : ℕ} {entry row : List ℕ} where
  module _ {i k : ℕ} (written : Written q p at steps entry row i k) where
    -- a place with steps left is not the first
    pub steps_left : 0 < k → 0 < i
    steps_left = left k written.deep
      where
        left : (k : ℕ) → Depth p i k → 0 < k → 0 < i
        left zero d h = absurd (not-suc-le-zero h)
        left (suc k) d h = (depth_parent d).0

    other : (x j : ℕ) → (j ≡ k → ⊥) → get_or (set row k x) j 0 ≡ get_or row j 0
    other x j ne = get_or-set_other row k j x 0 ne

    -- the variable of place i, put where it belongs
    put : (x : ℕ) → x ≡ q i → steps < length entry → (j : ℕ) → k ≤ j → j ≤ steps
        → get_or (set row k x) j 0 ≡ get_or (chain q p steps at) j 0
    put x e h j l m =
        by_same j k
        (λ z.
        let stored = get_or-set_same row k x 0 (omega (arith, written.long)) in
        rw (z, stored, written.same k (le_refl _), chain_end q p k i) e)
        (λ ne. other x j ne ∙ written.here j (omega arith) m)

    put_beyond : (x j : ℕ) → steps < j → get_or (set row k x) j 0 ≡ get_or entry j 0
    put_beyond x j l = other x j (λ z. omega (arith, written.most)) ∙ written.beyond j l

    put_long : (x : ℕ) → length (set row k x) ≡ length entry
    put_long x = length-set row k x ∙ written.long

  pub written_more : {i x up : ℕ} (k : ℕ) → Written q p at steps entry row i k → 0 < k → p i < i
      → steps < length entry → x ≡ q i → up ≡ p i → Written q p at steps entry (set row k x) up (k - 1)
  written_more zero written some falls h e f = absurd (not-suc-le-zero some)
  written_more {i} {x} (suc k) written some falls h e f =
      let less : suc k - 1 ≡ k = omega arith in
      rw (less, f)
      (record {
        low = omega (arith, written.low);
        most = omega (arith, written.most);
        deep = (depth_parent written.deep).1;
        same = λ j l. written.same j (omega arith) ∙ chain_before q p k i j l;
        long = put_long written x;
        here = put written x e h;
        beyond = put_beyond written x;
      })

  -- all of them, in front of the row
  pub written_all : {i k x : ℕ} → Written q p at steps entry row i k → k ≤ 0 → steps < length entry → x ≡ q i
      → set row 0 x ≡ chain q p steps at ++ drop (steps + 1) entry
  written_all {i} {k} {x} written none h e =
      ext_get_or 0 (set row 0 x) (chain q p steps at ++ drop (steps + 1) entry)
      (simp (length-append, length-drop) (omega (arith, put_long start x, long)))
      (λ j l. by_le (steps + 1) j
      (λ m.
      let place : j ≡ length (chain q p steps at) + (j - (steps + 1)) = omega (arith, long) in
      let there : steps + 1 + (j - (steps + 1)) ≡ j = omega arith in
      put_beyond start x j (omega arith)
      ∙ sym (ap (λ (m : ℕ). get_or (chain q p steps at ++ drop (steps + 1) entry) m 0) place
      ∙ get_or-append-add (chain q p steps at) (drop (steps + 1) entry) (j - (steps + 1)) 0
      ∙ get_or-drop (steps + 1) entry (j - (steps + 1)) 0
      ∙ ap (λ (m : ℕ). get_or entry m 0) there))
      (λ m.
      put start x e h j (omega arith) (omega arith)
      ∙ sym (get_or-append (chain q p steps at) (drop (steps + 1) entry) 0 j (omega (arith, long)))))
    where
      start : Written q p at steps entry row i 0
      start = let z : k ≡ 0 = omega arith in rw z at written

      long : length (chain q p steps at) ≡ steps + 1
      long = chain_length q p steps at

-- The way through the queue to its first secret input is the path: places ascend with the parents and among equal
-- parents with the variables, so an earlier place is a shorter row or a lower one. Every row leads to a place that is
-- not done, which comes no sooner.
-- Assumes nothing.
use mathlib.Core.Path.{◌≡◌, refl, sym, ap, ◌∙◌, subst}
use mathlib.Core.Logic.{◌⊎◌, ⊎_elim}
use mathlib.Core.List.{List, [], ◌∷◌, ◌++◌}
use Prim.Native.Nat.{ℕ, zero, suc, ◌+◌, ◌-◌, ◌≤◌, ◌<◌, zero-le}
use native.Mathlib.Nat.{not-suc-le-zero, le_refl}
use native.Mathlib.Numerals.{add-one}
use native.Mathlib.Omega.{arith}
use lib.Dec.{T}
use lib.ListN.{length, get_or}
use Rattle.net.proofs.Bools.{not_both}
use Rattle.net.proofs.Cases.{by_le}
use Rattle.circuit.specs.Circuit.{Circuit}
use Rattle.fact.specs.declared.Fact.{Fact}
use Rattle.path.specs.Row.{secret, Row, PathOf}
use Rattle.path.specs.Search.{Queue, Depth, root, below, chain}
use Rattle.path.proofs.Rows.{longer, at_before, at_end, Walk, start, onward, walk_row}

-- ---- the chain as a list

module _ (q p : ℕ → ℕ) where
  pub chain_length : (d i : ℕ) → length (chain q p d i) ≡ d + 1
  unfolding chain
  chain_length zero i = refl
  chain_length (suc d) i = omega (arith, longer (chain q p d (p i)) (q i), chain_length d (p i))

  pub chain_before : (d i k : ℕ) → k ≤ d → get_or (chain q p (suc d) i) k 0 ≡ get_or (chain q p d (p i)) k 0
  unfolding chain
  chain_before d i k h = at_before (chain q p d (p i)) (q i) k (omega (arith, chain_length d (p i)))

  pub chain_end : (d i : ℕ) → get_or (chain q p d i) d 0 ≡ q i
  unfolding chain
  chain_end zero i = refl
  chain_end (suc d) i =
      let place : suc d ≡ length (chain q p d (p i)) = omega (arith, chain_length d (p i)) in
      ap (λ (k : ℕ). get_or (chain q p d (p i) ++ (q i ∷ [])) k 0) place ∙ at_end (chain q p d (p i)) (q i)

-- ---- depths

module _ {p : ℕ → ℕ} where
  depth_root : {d : ℕ} → Depth p 0 d → d ≡ 0
  depth_root root = refl
  depth_root (below h t) = absurd (not-suc-le-zero h)

  -- a place whose depth is not 0 has a parent whose depth is one less
  pub depth_parent : {i d : ℕ} → Depth p i (suc d) → (0 < i) × Depth p (p i) d
  depth_parent (below h t) = (h, t)

-- ---- a queue

module _ {c : Circuit} {facts : ℕ → Fact} {n : ℕ} {q p f : ℕ → ℕ} {head tail bound : ℕ}
    (size : n ≡ length c) (queue : Queue c facts n q p f head tail bound) where
  -- parents ascend
  parents_ascend : (k i : ℕ) → 0 < i → i + k < tail → p i ≤ p (i + k)
  parents_ascend zero i h l = let e : i + 0 ≡ i = omega arith in rw e (le_refl _)
  parents_ascend (suc k) i h l =
      let e : i + suc k ≡ i + k + 1 = omega arith in
      rw e (⊎_elim (λ (less : p (i + k) < p (i + k + 1)). omega (arith, parents_ascend k i h (omega arith)))
      (λ same. omega (arith, same.0, parents_ascend k i h (omega arith)))
      (queue.ascends (i + k) (omega arith) (omega arith)))

  parent_mono : (i j : ℕ) → 0 < i → i ≤ j → j < tail → p i ≤ p j
  parent_mono i j h l t =
      let e : i + (j - i) ≡ j = omega arith in
      subst (λ (k : ℕ). p i ≤ p k) e (parents_ascend (j - i) i h (omega arith))

  -- among equal parents the variables ascend
  variables_ascend : (k i : ℕ) → 0 < i → i + k < tail → p (i + k) ≡ p i → q i ≤ q (i + k)
  variables_ascend zero i h l e = let z : i + 0 ≡ i = omega arith in rw z (le_refl _)
  variables_ascend (suc k) i h l e =
      let z : i + suc k ≡ i + k + 1 = omega arith in
      let e' : p (i + k + 1) ≡ p i = subst (λ (j : ℕ). p j ≡ p i) z e in
      rw z (⊎_elim
      (λ (less : p (i + k) < p (i + k + 1)). absurd (omega (arith, parents_ascend k i h (omega arith))))
      (λ same. omega (arith, same.1, variables_ascend k i h (omega arith) (same.0 ∙ e')))
      (queue.ascends (i + k) (omega arith) (omega arith)))

  variable_mono : (i j : ℕ) → 0 < i → i ≤ j → j < tail → p j ≡ p i → q i ≤ q j
  variable_mono i j h l t same =
      let e : i + (j - i) ≡ j = omega arith in
      subst (λ (k : ℕ). q i ≤ q k) e
      (variables_ascend (j - i) i h (omega arith) (subst (λ (k : ℕ). p k ≡ p i) (sym e) same))

  -- a variable has one place
  place_unique : (i j : ℕ) → i < tail → j < tail → q i ≡ q j → i ≡ j
  place_unique i j h l e =
      omega (arith, (queue.variables i h).2, (queue.variables j l).2, ap f e)

  -- ---- the way to a place is a walk

  variable_below : (i : ℕ) → i < tail → q i < length c
  variable_below i h = omega (arith, (queue.variables i h).0)

  chain_walk : (d i : ℕ) → i < tail → Depth p i d → Walk c facts (q 0) (q i) (chain q p d i)
  unfolding chain
  chain_walk zero i h t = go i h t
    where
      go : (i : ℕ) → i < tail → Depth p i 0 → Walk c facts (q 0) (q i) (q i ∷ [])
      go i h root =
          start (variable_below 0 h) (queue.variables 0 h).1
  chain_walk (suc d) i h t =
      let (some, above) = depth_parent t in
      let (earlier, under) = queue.linked i some h in
      onward (chain_walk d (p i) (omega arith) above) under (variable_below i h) (queue.variables i h).1

  -- ---- a row, followed through the queue

  module _ {row : List ℕ} (r : Row c facts (q 0) row) where
    -- the place of the row's variable j, as it was found from that of the one before, or sooner
    data Follows : ℕ → ℕ → Type 0 where
      begin : Follows 0 0
      forth : {j e e' : ℕ} → Follows j e → e' < tail → q e' ≡ get_or row (suc j) 0 → (e' ≡ 0) ⊎ (p e' ≤ e)
          → Follows (suc j) e'

    follows_here : {j e : ℕ} → Follows j e → (e < tail) × (q e ≡ get_or row j 0)
    follows_here begin = (queue.some, sym r.first)
    follows_here (forth w h is from) = (h, is)

    -- a row comes to a place that is not done
    record Meets : Type 0 where
      place : ℕ
      at : ℕ
      within : at < length row
      follows : Follows at place
      not_done : head ≤ place

    here_met : (j e : ℕ) → j < length row → Follows j e → head ≤ e → Meets
    here_met j e l w h = record { place = e; at = j; within = l; follows = w; not_done = h }

    -- the row's last variable is a secret input, which is not done
    last_done : {P : Type 0} (j e : ℕ) → j + 1 ≡ length row → Follows j e → e < head → P
    last_done j e left w h =
        let last : length row - 1 ≡ j = omega arith in
        not_both (secret c (q e)) (rw ((follows_here w).1, ← last) r.last) (queue.passed e h)

    meets_from : (k j e : ℕ) → j + k + 1 ≡ length row → Follows j e → Meets
    meets_from zero j e left w =
        by_le head e (here_met j e (omega arith) w) (last_done j e (omega arith) w)
    meets_from (suc k) j e left w =
        by_le head e (here_met j e (omega arith) w)
        (λ h.
        let under = rw (← (follows_here w).1, add-one j) at (r.next j (omega arith)) in
        let marked = rw (add-one j) at (r.marked (j + 1) (omega arith)).1 in
        let (i, l, is, from) = queue.done e h (get_or row (suc j) 0) under marked in
        meets_from k (suc j) i (omega arith) (forth w l is from))

    meets : Meets
    meets = meets_from (length row - 1) 0 0 (omega (arith, r.some)) begin

    -- a place up to that of the row's variable j is at most j steps deep
    depth_most : {j e : ℕ} → Follows j e → {i d : ℕ} → i ≤ e → Depth p i d → d ≤ j
    depth_most begin {i} {d} l t =
        let z : i ≡ 0 = omega arith in
        omega (arith, depth_root (rw z at t))
    depth_most (forth w h is from) l root = zero-le
    depth_most (forth {j} {e} {e'} w h is from) {i} l (below some t) =
        ⊎_elim
        (λ (z : e' ≡ 0). absurd (omega arith))
        (λ (up : p e' ≤ e). omega (arith, depth_most w (omega (arith, parent_mono i e' some l h)) t))
        from

    -- where the way to it is as long and the same as the row before variable k, its own variable k is at most the row's
    lowest_at : {j e : ℕ} → Follows j e → (i : ℕ) → i ≤ e → Depth p i j → (k : ℕ) → k ≤ j
        → ((l : ℕ) → l < k → get_or row l 0 ≡ get_or (chain q p j i) l 0) → get_or (chain q p j i) k 0 ≤ get_or row k 0
    lowest_at begin i l t k h same =
        let z : i ≡ 0 = omega arith in
        let y : k ≡ 0 = omega arith in
        rw (z, y, chain_end q p 0 0, r.first) (le_refl _)
    lowest_at (forth {j} {e} {e'} w h is from) i l t k most same =
        let (some, above) = depth_parent t in
        let up : p e' ≤ e = ⊎_elim (λ (z : e' ≡ 0). absurd (omega arith)) (λ x. x) from in
        let mono = parent_mono i e' some l h in
        by_le k j
        (λ (g : k ≤ j). rw (chain_before q p j i k g) (lowest_at w (p i) (omega arith) above k g
        (λ x y. same x y ∙ chain_before q p j i x (omega arith))))
        (λ g.
        let here : k ≡ suc j = omega arith in
        let before : q e ≡ q (p i) =
        (follows_here w).1 ∙ same j (omega arith) ∙ chain_before q p j i j (le_refl _) ∙ chain_end q p j (p i) in
        let met : e ≡ p i =
        place_unique e (p i) (follows_here w).0 (omega (arith, (queue.linked i some (omega arith)).0)) before in
        rw (here, chain_end q p (suc j) i, ← is) (variable_mono i e' some l h (omega arith)))

  -- so the queue is not at its end, where there is a row
  pub row_left : {row : List ℕ} → Row c facts (q 0) row → head < tail
  row_left r = let m = meets r in omega (arith, m.not_done, (follows_here r m.follows).0)

  -- a secret input at the head of the queue ends the path
  pub chain_path : {d : ℕ} → head < tail → T (secret c (q head)) → Depth p head d
      → PathOf c facts (q 0) (chain q p d head)
  chain_path {d} h end t =
      record {
        is_row = walk_row (chain_walk d head h t) end;
        shortest = λ other r. let m = meets r in
            omega (arith, m.within, depth_most r m.follows m.not_done t, chain_length q p d head);
        lowest = λ other r long k l same.
            let m = meets r in
            let deep : m.at ≡ d =
            omega (arith, m.within, depth_most r m.follows m.not_done t, chain_length q p d head) in
            lowest_at r (subst (λ (j : ℕ). Follows r j m.place) deep m.follows) head m.not_done t k
            (omega (arith, chain_length q p d head)) same;
      }

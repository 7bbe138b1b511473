-- The numbers below a bound that pass a test, in order: what stands at each place of the list, and at which place each
-- number stands.
-- Assumes nothing.
use mathlib.Core.Path.{◌≡◌, refl, sym, ap, ◌∙◌}
use mathlib.Core.Bool.{Bool, true, false, not}
use mathlib.Core.List.{[], ◌∷◌, ◌++◌}
use Prim.Native.Nat.{ℕ, zero, suc, ◌+◌, ◌≤◌, ◌<◌, zero-le}
use native.Mathlib.Nat.{not-suc-le-zero, le_refl}
use native.Mathlib.Numerals.{add-one}
use native.Mathlib.Omega.{arith}
use lib.Dec.{T}
use lib.ListN.{length, get_or, length-append, get_or-append}
use lib.Seq.{get_or_at}
use Rattle.net.specs.Chosen.{chosen, place_of}
use Rattle.net.proofs.Bools.{T_of, of_T, last_or}
use Rattle.net.proofs.Cases.{by_le}

-- ---- one number more

module _ (p : ℕ → Bool) (n : ℕ) where
  place_true : p n ≡ true → place_of p (suc n) ≡ suc (place_of p n)
  unfolding place_of
  place_true e = rw (e, place_of)

  place_false : p n ≡ false → place_of p (suc n) ≡ place_of p n
  unfolding place_of
  place_false e = rw (e, place_of)

  chosen_true : p n ≡ true → chosen p (suc n) ≡ chosen p n ++ (n ∷ [])
  unfolding chosen
  chosen_true e = rw (e, chosen)

  chosen_false : p n ≡ false → chosen p (suc n) ≡ chosen p n
  unfolding chosen
  chosen_false e = rw (e, chosen)

  -- a number that passes has a place of its own
  pub place_passed : T (p n) → place_of p (n + 1) ≡ place_of p n + 1
  place_passed t = rw (add-one n, add-one (place_of p n)) (place_true (of_T _ t))

  -- a number that fails has none
  pub place_failed : T (not (p n)) → place_of p (n + 1) ≡ place_of p n
  place_failed t = rw (add-one n) (go (p n) refl t)
    where
      go : (b : Bool) → p n ≡ b → T (not b) → place_of p (suc n) ≡ place_of p n
      go true e t = absurd t
      go false e t = place_false e

-- ---- places

module _ (p : ℕ → Bool) where
  place_suc : (n : ℕ) → (place_of p n ≤ place_of p (suc n)) × (place_of p (suc n) ≤ suc (place_of p n))
  place_suc n = go (p n) refl
    where
      go : (b : Bool) → p n ≡ b → (place_of p n ≤ place_of p (suc n)) × (place_of p (suc n) ≤ suc (place_of p n))
      go true e = (omega (arith, place_true p n e), omega (arith, place_true p n e))
      go false e = (omega (arith, place_false p n e), omega (arith, place_false p n e))

  -- a later number has no earlier place
  pub place_mono : (u v : ℕ) → u ≤ v → place_of p u ≤ place_of p v
  place_mono u zero h = let e : u ≡ zero = omega arith in rw e (le_refl _)
  place_mono u (suc v) h =
      by_le u v (λ k. omega (arith, place_mono u v k, (place_suc v).0))
      (λ k. let e : u ≡ suc v = omega arith in rw e (le_refl _))

  -- a number behind one that passes has a later place
  pub place_strict : (u v : ℕ) → u < v → T (p u) → place_of p u < place_of p v
  place_strict u v h t = omega (arith, place_true p u (of_T _ t), place_mono (suc u) v h)

  -- no more numbers pass than there are
  pub place_most : (n : ℕ) → place_of p n ≤ n
  unfolding place_of
  place_most zero = zero-le
  place_most (suc n) = omega (arith, (place_suc n).1, place_most n)

  -- ---- what stands at the places

  -- as many are chosen as pass
  pub chosen_length : (n : ℕ) → length (chosen p n) ≡ place_of p n
  unfolding chosen place_of
  chosen_length zero = refl
  chosen_length (suc n) = go (p n) refl (chosen_length n)
    where
      go : (b : Bool) → p n ≡ b → length (chosen p n) ≡ place_of p n → length (chosen p (suc n)) ≡ place_of p (suc n)
      go true e ih =
          rw (chosen_true p n e, place_true p n e)
          (omega (arith, length-append (chosen p n) (n ∷ [])))
      go false e ih = rw (chosen_false p n e, place_false p n e) ih

  -- what stands at a place stays there
  chosen_stays : (n j : ℕ) → j < length (chosen p n) → get_or (chosen p (suc n)) j 0 ≡ get_or (chosen p n) j 0
  chosen_stays n j h = go (p n) refl
    where
      go : (b : Bool) → p n ≡ b → get_or (chosen p (suc n)) j 0 ≡ get_or (chosen p n) j 0
      go true e = rw (chosen_true p n e) (get_or-append (chosen p n) (n ∷ []) 0 j h)
      go false e = rw (chosen_false p n e)

  -- the last one that passes stands last
  chosen_last : (n : ℕ) → p n ≡ true → get_or (chosen p (suc n)) (place_of p n) 0 ≡ n
  chosen_last n e = rw (chosen_true p n e) (get_or_at (chosen p n) n [] 0 (place_of p n) (chosen_length n))

  -- at its place stands the number itself
  pub chosen_place : (n v : ℕ) → v < n → T (p v) → get_or (chosen p n) (place_of p v) 0 ≡ v
  chosen_place zero v h t = absurd (not-suc-le-zero h)
  chosen_place (suc n) v h t =
      last_or h (λ e. rw e (chosen_last n (of_T (p n) (rw e at t))))
      (λ k. chosen_stays n (place_of p v) (rw (chosen_length n) (place_strict v n k t)) ∙ chosen_place n v k t)

  -- what stands at place j is below the bound, passes, and has j for its place
  record At (n j : ℕ) (v : ℕ) : Type 0 where
    below : v < n
    passes : T (p v)
    place : place_of p v ≡ j

  chosen_at : (n j : ℕ) → j < place_of p n → At n j (get_or (chosen p n) j 0)
  unfolding place_of
  chosen_at zero j h = absurd (not-suc-le-zero h)
  chosen_at (suc n) j h =
      by_le (suc j) (place_of p n) (λ k. earlier k (chosen_at n j k)) (λ k. go (p n) refl k)
    where
      earlier : j < place_of p n → At n j (get_or (chosen p n) j 0) → At (suc n) j (get_or (chosen p (suc n)) j 0)
      earlier k ih =
          rw (chosen_stays n j (rw (chosen_length n) k))
          record { below = omega (arith, ih.below); passes = ih.passes; place = ih.place }

      go : (b : Bool) → p n ≡ b → place_of p n < suc j → At (suc n) j (get_or (chosen p (suc n)) j 0)
      go true e k =
          let d : place_of p n ≡ j = omega (arith, place_true p n e) in
          rw (← d, chosen_last n e) record { below = le_refl _; passes = T_of _ e; place = refl }
      go false e k = absurd (omega (arith, place_false p n e))

  module _ (n : ℕ) where
    -- each chosen number is below the bound and passes
    pub chosen_passes : (j : ℕ) → j < length (chosen p n)
        → (get_or (chosen p n) j 0 < n) × T (p (get_or (chosen p n) j 0))
    chosen_passes j h = let at_j = chosen_at n j (rw (chosen_length n) at h) in (at_j.below, at_j.passes)

    -- each chosen number has the place where it stands
    pub place_chosen : (j : ℕ) → j < length (chosen p n) → place_of p (get_or (chosen p n) j 0) ≡ j
    place_chosen j h = (chosen_at n j (rw (chosen_length n) at h)).place

    -- the chosen numbers ascend
    pub chosen_ascends : (i j : ℕ) → i < j → j < length (chosen p n) → get_or (chosen p n) i 0 < get_or (chosen p n) j 0
    chosen_ascends i j l h =
        by_le (get_or (chosen p n) j 0) (get_or (chosen p n) i 0)
        (λ k. absurd (omega (
          arith,
          place_mono _ _ k,
          place_chosen i (omega arith),
          place_chosen j h,
        )))
        (λ k. k)

-- ---- tests that agree

module _ (p q : ℕ → Bool) where
  -- tests that agree below the bound choose the same numbers
  pub chosen_agree : (n : ℕ) → ((v : ℕ) → v < n → p v ≡ q v) → chosen p n ≡ chosen q n
  unfolding chosen
  chosen_agree zero h = refl
  chosen_agree (suc n) h = go (q n) refl (h n (le_refl _)) (chosen_agree n (λ v k. h v (omega arith)))
    where
      go : (b : Bool) → q n ≡ b → p n ≡ q n → chosen p n ≡ chosen q n → chosen p (suc n) ≡ chosen q (suc n)
      go true e d ih = rw (chosen_true p n (d ∙ e), chosen_true q n e, ih)
      go false e d ih = rw (chosen_false p n (d ∙ e), chosen_false q n e, ih)

  -- and give each number up to the bound the same place
  pub place_agree : (n : ℕ) → ((v : ℕ) → v < n → p v ≡ q v) → place_of p n ≡ place_of q n
  place_agree n h = sym (chosen_length p n) ∙ ap length (chosen_agree n h) ∙ chosen_length q n

-- A ground that is tried on one number after another: step by step, what holds where no number meets it, and which
-- number is found.
-- Assumes nothing.
use Rattle.std.proofs.Common.{◌≡◌, ℕ, zero, suc, ◌+◌, ◌-◌, ◌<◌, ◌≤◌, Bool, true, false, refl, subst, ap₂, arith}
use native.Mathlib.Nat.{sub-zero}
use native.Mathlib.Decide.{ℕ_discrete}
use Rattle.circuit.specs.declared.refusal.Ground.{Ground}
use Rattle.circuit.specs.Refusal.{passed, refused}
use Rattle.circuit.specs.Refusal.{refuse, refuse_first}
use Rattle.circuit.proofs.Passing.{refuse_passed}
use Rattle.circuit.proofs.Places.{Refusals, refuse_tested}
use Rattle.circuit.proofs.Scan.{steps_left}

module _ (reason : Ground) (test : ℕ → Bool) where
  -- ---- step by step

  module _ (n : ℕ) where
    pub first_start : refuse_first reason test n 0 ≡ refuse_first reason test (n - 0) 0
    first_start = rw sub-zero

    module _ (i : ℕ) where
      pub first_passed : i < n → test i ≡ false
          → refuse_first reason test (n - i) i ≡ refuse_first reason test (n - (i + 1)) (i + 1)
      unfolding refuse_first
      first_passed h e = rw (steps_left n i h, e)

      pub first_refused : i < n → test i ≡ true → refuse_first reason test (n - i) i ≡ refused reason i
      unfolding refuse_first
      first_refused h e = rw (steps_left n i h, e)

      pub first_end : n ≤ i → refuse_first reason test (n - i) i ≡ passed
      unfolding refuse_first
      first_end h = rw none
        where
          none : n - i ≡ 0
          none = omega arith

  -- ---- what is found

  -- where it passes, no number meets it
  pub first_known : (count i : ℕ) → refuse_first reason test count i ≡ passed → (v : ℕ) → i ≤ v → v < i + count
      → test v ≡ false
  unfolding refuse_first
  first_known zero i e v low high = absurd (omega arith)
  first_known (suc count) i e v low high =
      let (here, later) = refuse_passed reason i (test i) (refuse_first reason test count (i + 1)) e in
      elim (ℕ_discrete i v) [
        | yes q ↦ subst (λ (k : ℕ). test k ≡ false) q here
        | no q ↦ first_known count (i + 1) later v (omega arith) (omega arith)
      ]

  -- where no number meets it, it passes
  pub first_none : (count i : ℕ) → ((v : ℕ) → i ≤ v → v < i + count → test v ≡ false)
      → refuse_first reason test count i ≡ passed
  unfolding refuse_first
  first_none zero i h = refl
  first_none (suc count) i h =
      rw (h i (omega arith) (omega arith)) (first_none count (i + 1) (λ v low high. h v (omega arith) (omega arith)))

  -- another test that holds of the same numbers finds the same
  pub first_agree : (other : ℕ → Bool) (count i : ℕ) → ((v : ℕ) → i ≤ v → v < i + count → test v ≡ other v)
      → refuse_first reason test count i ≡ refuse_first reason other count i
  unfolding refuse_first
  first_agree other zero i h = refl
  first_agree other (suc count) i h =
      ap₂ (refuse reason i) (h i (omega arith) (omega arith))
      (first_agree other count (i + 1) (λ v low high. h v (omega arith) (omega arith)))

  -- what holds of a number that meets it, where none before does, holds of the place that is found
  pub first_refusals : (P : Ground → ℕ → Type 0) (count i : ℕ)
      → ((v : ℕ) → i ≤ v → v < i + count → test v ≡ true → ((u : ℕ) → i ≤ u → u < v → test u ≡ false) → P reason v)
      → Refusals P (refuse_first reason test count i)
  unfolding refuse_first
  first_refusals P zero i h = tt
  first_refusals P (suc count) i h =
      refuse_tested P reason i (test i) (refuse_first reason test count (i + 1))
      (λ is. h i (omega arith) (omega arith) is (λ u low high. absurd (omega arith)))
      (λ not-here. first_refusals P count (i + 1)
      (λ v low high is before. h v (omega arith) (omega arith) is
      (λ u low' high'. elim (ℕ_discrete i u) [
        | yes q ↦ subst (λ (k : ℕ). test k ≡ false) q not-here
        | no q ↦ before u (omega arith) high'
      ])))

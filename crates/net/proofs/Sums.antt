-- Sums over the numbers below a bound.
-- Assumes nothing.
use mathlib.Core.Path.{◌≡◌, refl, sym, ap, ◌∙◌, fun_ext}
use mathlib.Core.Bool.{Bool, true, false, ◌&&◌}
use Prim.Native.Nat.{ℕ, zero, suc, ◌+◌, ◌*◌, ◌≤◌, ◌<◌, zero-le}
use native.Mathlib.Nat.{not-suc-le-zero, le_refl, mul-zero, mul-add}
use native.Mathlib.Omega.{arith}
use Rattle.net.specs.Tests.{all_below}
use Rattle.net.specs.Net.{Graph, Role, input, wire, register, sum_below, sum_registers}
use Rattle.net.proofs.Bools.{last_or}

pub sum_mono : (g h : ℕ → ℕ) (n : ℕ) → ((v : ℕ) → v < n → g v ≤ h v) → sum_below g n ≤ sum_below h n
unfolding sum_below
sum_mono g h zero le = zero-le
sum_mono g h (suc n) le = omega (arith, le n (le_refl _), sum_mono g h n (λ v k. le v (omega arith)))

-- where the test fails somewhere, and each failure is a strict rise, the sum rises
pub sum_strict : (g h : ℕ → ℕ) (p : ℕ → Bool) (n : ℕ) → ((v : ℕ) → v < n → g v ≤ h v)
    → ((v : ℕ) → v < n → p v ≡ false → g v < h v)
    → all_below p n ≡ false → sum_below g n < sum_below h n
unfolding sum_below all_below
sum_strict g h p zero le lt e = let z : ◌≡◌ {A = ℕ} 0 1 = cc in omega arith
sum_strict g h p (suc n) le lt e =
    go (p n) refl e (λ d. sum_strict g h p n (λ v k. le v (omega arith)) (λ v k. lt v (omega arith)) d)
  where
    go : (b : Bool) → p n ≡ b → (b && all_below p n) ≡ false → (all_below p n ≡ false → sum_below g n < sum_below h n)
        → g n + sum_below g n < h n + sum_below h n
    go true q d ih = omega (arith, le n (le_refl _), ih d)
    go false q d ih = omega (arith, lt n (le_refl _) q, sum_mono g h n (λ v k. le v (omega arith)))

pub sum_scale : (k : ℕ) (g : ℕ → ℕ) (n : ℕ) → sum_below (λ v. k * g v) n ≡ k * sum_below g n
unfolding sum_below
sum_scale k g zero = sym (mul-zero k)
sum_scale k g (suc n) = ap (λ z. k * g n + z) (sum_scale k g n) ∙ sym (mul-add k (g n) (sum_below g n))

pub sum_at : (g : ℕ → ℕ) (n x : ℕ) → x < n → g x ≤ sum_below g n
unfolding sum_below
sum_at g zero x h = absurd (not-suc-le-zero h)
sum_at g (suc n) x h = last_or h (λ e. rw e (omega arith)) (λ k. omega (arith, sum_at g n x k))

pub sum_add : (g h : ℕ → ℕ) (n : ℕ) → sum_below (λ v. g v + h v) n ≡ sum_below g n + sum_below h n
unfolding sum_below
sum_add g h zero = refl
sum_add g h (suc n) = omega (arith, sum_add g h n)

pub sum_one : (n : ℕ) → sum_below (λ v. 1) n ≡ n
unfolding sum_below
sum_one zero = refl
sum_one (suc n) = omega (arith, sum_one n)

scale_role : (r : Role) (k x : ℕ)
    → elim r as (λ _. ℕ) [ input ↦ zero | wire ↦ zero | register ↦ k * x ] ≡ k * elim r as
    (λ _. ℕ) [ input ↦ zero | wire ↦ zero | register ↦ x ]
scale_role input k x = sym (mul-zero k)
scale_role wire k x = sym (mul-zero k)
scale_role register k x = refl

pub sum_registers_scale : (g : Graph) (k : ℕ) (h : ℕ → ℕ) → sum_registers g (λ v. k * h v) ≡ k * sum_registers g h
unfolding sum_registers
sum_registers_scale g k h =
    ap (λ (f : ℕ → ℕ). sum_below f g.size) (fun_ext (λ v. scale_role (g.role v) k (h v)))
    ∙ sum_scale k (λ v. elim (g.role v) as (λ _. ℕ) [ input ↦ zero | wire ↦ zero | register ↦ h v ]) g.size

at_most_one : (r : Role) → elim r as (λ _. ℕ) [ input ↦ zero | wire ↦ zero | register ↦ 1 ] ≤ 1
at_most_one input = zero-le
at_most_one wire = zero-le
at_most_one register = le_refl _

-- a net has no more registers than variables
pub registers_few : (g : Graph) → sum_registers g (λ v. 1) ≤ g.size
unfolding sum_registers
registers_few g =
    omega (
      arith,
      sum_mono (λ v. elim (g.role v) as (λ _. ℕ) [ input ↦ zero | wire ↦ zero | register ↦ 1 ]) (λ v. 1) g.size
          (λ v h. at_most_one (g.role v)),
      sum_one g.size,
    )

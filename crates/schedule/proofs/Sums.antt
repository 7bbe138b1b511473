-- Sums over the numbers below a bound, of a function that changes at one number; how many variables have been visited.
-- Assumes nothing.
use mathlib.Core.Path.{◌≡◌, refl, ap}
use Prim.Native.Nat.{ℕ, zero, suc, ◌+◌, ◌*◌, ◌≤◌, ◌<◌, zero-le}
use native.Mathlib.Nat.{mul-suc, not-suc-le-zero}
use native.Mathlib.Omega.{arith}
use Rattle.net.specs.Net.{sum_below, put}
use Rattle.net.proofs.Bools.{last_or}
use Rattle.schedule.specs.Walk.{sign, count_visited}
use Rattle.net.proofs.Put.{put_same, put_other}

pub sum_same : (f g : ℕ → ℕ) (n : ℕ) → ((x : ℕ) → x < n → g x ≡ f x) → sum_below g n ≡ sum_below f n
unfolding sum_below
sum_same f g zero h = refl
sum_same f g (suc n) h = omega (arith, sum_same f g n (λ x l. h x (omega arith)), h n (omega arith))

-- a change at v alone
pub sum_change : (f g : ℕ → ℕ) (n v : ℕ) → v < n → ((x : ℕ) → (x ≡ v → ⊥) → g x ≡ f x)
    → sum_below g n + f v ≡ sum_below f n + g v
unfolding sum_below
sum_change f g zero v l h = absurd (not-suc-le-zero l)
sum_change f g (suc n) v l h =
    last_or l
    (λ e.
    let same : sum_below g n ≡ sum_below f n = sum_same f g n (λ x k. h x (λ z. omega arith)) in
    omega (arith, ap f e, ap g e))
    (λ k.
    let other : g n ≡ f n = h n (λ z. omega arith) in
    omega (arith, sum_change f g n v k h))

-- a change upwards at v alone
pub sum_rises : (f g : ℕ → ℕ) (n v : ℕ) → v < n → f v < g v → ((x : ℕ) → (x ≡ v → ⊥) → g x ≡ f x)
    → sum_below f n < sum_below g n
sum_rises f g n v l h o = omega (arith, sum_change f g n v l o)

pub sum_most : (f : ℕ → ℕ) (b n : ℕ) → ((x : ℕ) → x < n → f x ≤ b) → sum_below f n ≤ b * n
unfolding sum_below
sum_most f b zero h = zero-le
sum_most f b (suc n) h =
    omega (arith, sum_most f b n (λ x l. h x (omega arith)), h n (omega arith), mul-suc b n)

-- ---- variables that have been visited

pub sign_most : (x : ℕ) → sign x ≤ 1
sign_most zero = zero-le
sign_most (suc x) = omega arith

pub sign_positive : (x : ℕ) → 0 < x → sign x ≡ 1
sign_positive zero h = absurd (not-suc-le-zero h)
sign_positive (suc x) h = refl

pub visited_most : (state : ℕ → ℕ) (n : ℕ) → count_visited state n ≤ n
visited_most state n = omega (arith, sum_most (λ v. sign (state v)) 1 n (λ x l. sign_most (state x)))

-- an unvisited variable that is visited is one more
pub visited_more : (state : ℕ → ℕ) (n u : ℕ) → u < n → state u ≡ 0
    → count_visited (put state u 1) n ≡ count_visited state n + 1
visited_more state n u l z =
    let after : ℕ → ℕ = put state u 1 in
    let change : count_visited after n + sign (state u) ≡ count_visited state n + sign (after u) =
    sum_change (λ v. sign (state v)) (λ v. sign (after v)) n u l (λ x ne. ap sign (put_other state u 1 x ne)) in
    omega (arith, change, ap sign z, ap sign (put_same state u 1))

-- and it leaves room
pub visited_less : (state : ℕ → ℕ) (n u : ℕ) → u < n → state u ≡ 0 → count_visited state n < n
visited_less state n u l z = omega (arith, visited_more state n u l z, visited_most (put state u 1) n)

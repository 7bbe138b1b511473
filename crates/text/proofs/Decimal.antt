-- Numbers in base ten: one digit, one digit more, how many there are, and that the digits are those of the number.
-- Assumes nothing.
use mathlib.Core.Path.{◌≡◌, sym, ap, ◌∙◌, subst}
use mathlib.Core.List.{List, [], ◌∷◌, ◌++◌}
use Prim.Native.Nat.{ℕ, zero, suc, ◌+◌, ◌*◌, ◌/◌, ◌%◌, ◌^◌, ◌≤◌, ◌<◌}
use native.Mathlib.Nat.{not-suc-le-zero, pow-suc}
use native.Mathlib.Decide.{dec_lt}
use native.Mathlib.Omega.{arith}
use borrow.Author.Tests.{lt-ltb, le-ltb}
use lib.ListN.{length, length-append}
use Rattle.text.specs.Text.{digits, decimal}

pub digits_one : (fuel n : ℕ) → n < 10 → digits (suc fuel) n ≡ (48 + n) ∷ []
unfolding digits
digits_one fuel n h = rw (lt-ltb n 10 h, digits)

pub digits_more : (fuel n : ℕ) → 10 ≤ n → digits (suc fuel) n ≡ digits fuel (n / 10) ++ ((48 + n % 10) ∷ [])
unfolding digits
digits_more fuel n h = rw (le-ltb n 10 h, digits)

-- any fuel above the number is enough
digits_enough : (fuel fuel' n : ℕ) → n < fuel → n < fuel' → digits fuel n ≡ digits fuel' n
digits_enough zero fuel' n h k = absurd (not-suc-le-zero h)
digits_enough (suc fuel) zero n h k = absurd (not-suc-le-zero k)
digits_enough (suc fuel) (suc fuel') n h k =
    elim (dec_lt n 10) [
      | yes l ↦ digits_one fuel n l ∙ sym (digits_one fuel' n l)
      | no l ↦
          let most : 10 ≤ n = omega arith in
          digits_more fuel n most
          ∙ ap (λ (x : List ℕ). x ++ ((48 + n % 10) ∷ []))
          (digits_enough fuel fuel' (n / 10) (omega arith) (omega arith))
          ∙ sym (digits_more fuel' n most)
    ]

pub decimal_one : (n : ℕ) → n < 10 → decimal n ≡ (48 + n) ∷ []
unfolding decimal
decimal_one n h = digits_one n n h

pub decimal_more : (n : ℕ) → 10 ≤ n → decimal n ≡ decimal (n / 10) ++ ((48 + n % 10) ∷ [])
unfolding decimal
decimal_more n h =
    digits_more n n h
    ∙ ap (λ (x : List ℕ). x ++ ((48 + n % 10) ∷ []))
    (digits_enough n (suc (n / 10)) (n / 10) (omega arith) (omega arith))

-- a number below 10 to a power above 0 has at most so many digits
pub decimal_short : (k n : ℕ) → n < 10 ^ suc k → length (decimal n) ≤ suc k
decimal_short zero n h = rw (decimal_one n h) (omega arith)
decimal_short (suc k) n h =
    elim (dec_lt n 10) [
      | yes l ↦ rw (decimal_one n l) (omega arith)
      | no l ↦
          let most : 10 ≤ n = omega arith in
          rw (decimal_more n most)
          (omega (
            arith,
            length-append (decimal (n / 10)) ((48 + n % 10) ∷ []),
            decimal_short k (n / 10)
                (tenth (10 ^ suc k) n (subst (λ (x : ℕ). n < x) (pow-suc 10 (suc k)) h)),
          ))
    ]
  where
    tenth : (x m : ℕ) → m < x * 10 → m / 10 < x
    tenth x m l = omega arith

pub decimal_some : (n : ℕ) → 1 ≤ length (decimal n)
decimal_some n =
    elim (dec_lt n 10) [
      | yes l ↦ rw (decimal_one n l) (omega arith)
      | no l ↦
          let most : 10 ≤ n = omega arith in
          rw (decimal_more n most) (omega (arith, length-append (decimal (n / 10)) ((48 + n % 10) ∷ [])))
    ]

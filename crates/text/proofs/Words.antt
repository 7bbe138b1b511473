-- Words that are read as numbers: digit by digit, and that a number in base ten reads as itself.
-- Assumes nothing.
use mathlib.Core.Path.{◌≡◌, refl, sym, ap}
use mathlib.Core.Bool.{true}
use mathlib.Core.List.{List, [], ◌∷◌, ◌++◌}
use Prim.Native.Nat.{ℕ, zero, suc, ◌+◌, ◌-◌, ◌*◌, ◌/◌, ◌%◌, ◌^◌, ◌≤◌, ◌<◌}
use native.Mathlib.Nat.{not-suc-le-zero, le_of_suc-le-suc}
use native.Mathlib.Decide.{dec_lt}
use native.Mathlib.Numerals.{add-one}
use native.Mathlib.Omega.{arith}
use borrow.Author.Tests.{leb-true, le-leb, lt-ltb, ne_eqb}
use lib.Dec.{leb}
use lib.ListN.{length, drop, get_or, drop_of_length-le}
use lib.Seq.{drop-cons}
use Rattle.std.specs.List.{list_all}
use Rattle.std.proofs.lemmas.List.Folds.{list_all-append}
use Rattle.circuit.proofs.Stimuli.{both_true}
use Rattle.std.specs.Prelude.{Ok}
use Rattle.text.specs.Text.{digits, decimal}
use Rattle.text.specs.Words.{is_digit, value, fitted, read_number}
use Rattle.text.proofs.Decimal.{digits_one, digits_more, decimal_some}

-- ---- digit by digit

module _ (word : List ℕ) (i : ℕ) where
  pub value_digit : (n : ℕ) → i < length word
      → value n (drop i word) ≡ value (n * 10 + (get_or word i 0 - 48)) (drop (i + 1) word)
  unfolding value
  value_digit n h =
      rw (drop-cons word i 0 h)
      (ap (λ (k : ℕ). value (n * 10 + (get_or word i 0 - 48)) (drop k word)) (sym (add-one i)))

  pub value_whole : (n : ℕ) → length word ≤ i → value n (drop i word) ≡ n
  unfolding value
  value_whole n h = rw drop_of_length-le

-- a digit of a word that has nothing else
pub digit_at : (word : List ℕ) (i : ℕ) → list_all is_digit word ≡ true → i < length word
    → (48 ≤ get_or word i 0) × (get_or word i 0 ≤ 57)
digit_at [] i e h = absurd (not-suc-le-zero h)
digit_at (x ∷ xs) zero e h =
    let (low, high) = both_true (leb 48 x) (leb x 57) (both_true (is_digit x) (list_all is_digit xs) e).0 in
    (leb-true 48 x low, leb-true x 57 high)
digit_at (x ∷ xs) (suc i) e h =
    digit_at xs i (both_true (is_digit x) (list_all is_digit xs) e).1 (le_of_suc-le-suc h)

-- digits that follow make a number no smaller
pub value_grows : (n : ℕ) (xs : List ℕ) → n ≤ value n xs
unfolding value
value_grows n [] = omega arith
value_grows n (x ∷ xs) = omega (arith, value_grows (n * 10 + (x - 48)) xs)

-- where the number fits, so does that of its first digits
pub digits_fit : (word : List ℕ) (i n : ℕ) → i < length word → value 0 word ≡ value n (drop i word)
    → value 0 word < 2 ^ 32 → n * 10 + (get_or word i 0 - 48) < 2 ^ 32
digits_fit word i n h same small =
    omega (
      arith,
      value_digit word i n h,
      value_grows (n * 10 + (get_or word i 0 - 48)) (drop (i + 1) word),
    )

pub number_told : (n : ℕ) → n < 2 ^ 32 → fitted n ≡ Ok n
number_told n h = rw (fitted, lt-ltb n (2 ^ 32) h)

-- ---- a number in base ten

value_last : (n : ℕ) (xs : List ℕ) (x : ℕ) → value n (xs ++ (x ∷ [])) ≡ value n xs * 10 + (x - 48)
unfolding value
value_last n [] x = refl
value_last n (y ∷ ys) x = value_last (n * 10 + (y - 48)) ys x

pub digits_value : (fuel n : ℕ) → n < fuel → value 0 (digits fuel n) ≡ n
unfolding value
digits_value zero n h = absurd (not-suc-le-zero h)
digits_value (suc fuel) n h =
    elim (dec_lt n 10) [
      | yes l ↦ rw (digits_one fuel n l) (omega arith)
      | no l ↦
          rw (digits_more fuel n (omega arith), value_last 0 (digits fuel (n / 10)) (48 + n % 10))
          (omega (arith, digits_value fuel (n / 10) (omega arith)))
    ]

digit_is : (d : ℕ) → d < 10 → is_digit (48 + d) ≡ true
digit_is d h = rw (le-leb 48 (48 + d) (omega arith), le-leb (48 + d) 57 (omega arith))

digits_alone : (fuel n : ℕ) → list_all is_digit (digits fuel n) ≡ true
unfolding digits
digits_alone zero n = refl
digits_alone (suc fuel) n =
    elim (dec_lt n 10) [
      | yes l ↦ rw (digits_one fuel n l) (last n l)
      | no l ↦
          rw (
            digits_more fuel n (omega arith),
            list_all-append is_digit (digits fuel (n / 10)) ((48 + n % 10) ∷ []),
            digits_alone fuel (n / 10),
            last (n % 10) (omega arith),
          )
    ]
  where
    last : (d : ℕ) → d < 10 → list_all is_digit ((48 + d) ∷ []) ≡ true
    last d h = rw (digit_is d h)

pub decimal_digits : (n : ℕ) → list_all is_digit (decimal n) ≡ true
unfolding decimal
decimal_digits n = digits_alone (suc n) n

-- what is printed of a number reads as that number
pub decimal_read : (n : ℕ) → n < 2 ^ 32 → read_number (decimal n) ≡ Ok n
unfolding decimal
decimal_read n h =
    rw (
      read_number,
      ne_eqb (length (decimal n)) 0 (λ e. omega (arith, decimal_some n)),
      decimal_digits n,
      digits_value (suc n) n (omega arith),
    )
    (number_told n h)

-- Laws of the operators, at every width.
-- Assumes nothing.
use Rattle.std.proofs.Common.{◌≡◌, ℕ, ◌+◌, ◌-◌, ◌*◌, ◌/◌, ◌%◌, ◌^◌, ◌<◌, ◌≤◌, sym, refl, ap, ◌∙◌, subst, mod-lt, div-add-mod', sub-add_cancel, arith, pow_pos}
use native.Mathlib.Nat.{mod-add-mod, add-mod_right, add-mul-mod_self_right}
use lib.Pow.{mod-mod-pow}
use Rattle.circuit.specs.declared.operator.Operator.{Operator}
use Rattle.std.specs.Prelude.{Option}
use Rattle.std.specs.Prelude.{Some}
use Rattle.circuit.specs.declared.operator.Operator.TheVariants.{Add, Sub, And, Or, Xor, Equal, Less, ShiftLeft, ShiftRight}
use Rattle.circuit.specs.Operator.{operator_code, operator_of, read_operator, apply, result, result_of, result_of_code}
use Rattle.circuit.proofs.Lookups.{operator_is}

-- an operator's code reads as that operator
pub code_reads : (op : Operator) → read_operator (operator_code op) ≡ Some op
code_reads Add = refl
code_reads Sub = refl
code_reads And = refl
code_reads Or = refl
code_reads Xor = refl
code_reads Equal = refl
code_reads Less = refl
code_reads ShiftLeft = refl
code_reads ShiftRight = refl

-- the operator of an operator's code is that operator
pub operator_code_lem : (op : Operator) → operator_of (operator_code op) ≡ op
operator_code_lem op = (operator_is (operator_code op) op (code_reads op)).1

-- every result is below 2^w
pub result_below : (op : Operator) (w a b : ℕ) → result op w a b < 2 ^ w
unfolding result
result_below op w a b = mod-lt (apply op w a b) (pow_pos w)

-- a - b is the number that with b added gives a, by remainders
pub sub_add : (w a b : ℕ) → (result Sub w a b + b) % 2 ^ w ≡ a % 2 ^ w
unfolding result
sub_add w a b =
    let whole : a + (2 ^ w - b % 2 ^ w) + b ≡ a + b / 2 ^ w * 2 ^ w + 2 ^ w =
    omega (arith, div-add-mod' b (2 ^ w), mod-lt b (pow_pos w)) in
    mod-add-mod (a + (2 ^ w - b % 2 ^ w)) (2 ^ w) b
    ∙ ap (λ x. x % 2 ^ w) whole
    ∙ add-mod_right (a + b / 2 ^ w * 2 ^ w) (2 ^ w)
    ∙ add-mul-mod_self_right a (b / 2 ^ w) (2 ^ w)

-- the remainder by a smaller power of two of a remainder by a greater
pub remainder_narrower : (n k w : ℕ) → w ≤ k → n % 2 ^ k % 2 ^ w ≡ n % 2 ^ w
remainder_narrower n k w h =
    subst (λ (m : ℕ). n % 2 ^ m % 2 ^ w ≡ n % 2 ^ w) (sub-add_cancel h) (mod-mod-pow n (k - w) w)

-- what with b added gives a, by remainders, is a - b
pub sub_unique : (w a b r : ℕ) → (r + b) % 2 ^ w ≡ a % 2 ^ w → r % 2 ^ w ≡ result Sub w a b
unfolding result
sub_unique w a b r e =
    let rest = 2 ^ w - b % 2 ^ w in
    let whole : r + b + rest ≡ r + b / 2 ^ w * 2 ^ w + 2 ^ w =
    omega (arith, div-add-mod' b (2 ^ w), mod-lt b (pow_pos w)) in
    sym (add-mul-mod_self_right r (b / 2 ^ w) (2 ^ w))
    ∙ sym (add-mod_right (r + b / 2 ^ w * 2 ^ w) (2 ^ w))
    ∙ ap (λ x. x % 2 ^ w) (sym whole)
    ∙ sym (mod-add-mod (r + b) (2 ^ w) rest)
    ∙ ap (λ x. (x + rest) % 2 ^ w) e
    ∙ mod-add-mod a (2 ^ w) rest

-- evaluating by an operator's code gives the operator's result
pub result_of_code_lem : (op : Operator) (w a b : ℕ) → result_of_code (operator_code op) w a b ≡ result op w a b
result_of_code_lem op w a b = ap (λ (r : Option Operator). result_of r w a b) (code_reads op)

-- ---- what 32 bits hold, at every width

module _ (a b r : ℕ) where
  pub add_wraps : r ≡ (a + b) % 2 ^ 32 → (w : ℕ) → w ≤ 32 → r % 2 ^ w ≡ result Add w a b
  unfolding result
  add_wraps e w h = rw e (remainder_narrower (a + b) 32 w h)

  pub sub_wraps : (r + b) % 2 ^ 32 ≡ a → (w : ℕ) → w ≤ 32 → r % 2 ^ w ≡ result Sub w a b
  sub_wraps e w h = sub_unique w a b r (sym (remainder_narrower (r + b) 32 w h) ∙ ap (λ x. x % 2 ^ w) e)

  pub shift_left_wraps : r ≡ apply ShiftLeft 32 a b % 2 ^ 32 → (w : ℕ) → w ≤ 32 → r % 2 ^ w ≡ result ShiftLeft w a b
  unfolding result
  shift_left_wraps e w h = rw e (remainder_narrower (apply ShiftLeft w a b) 32 w h)

  pub shift_right_wraps : r ≡ apply ShiftRight 32 a b → (w : ℕ) → w ≤ 32 → r % 2 ^ w ≡ result ShiftRight w a b
  unfolding result
  shift_right_wraps e w h = rw e

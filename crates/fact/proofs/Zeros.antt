-- Known zeros that decide an operator: its result is then 0, at every width.
-- Assumes nothing.
use mathlib.Core.Path.{◌≡◌, refl, ap, ◌∙◌}
use mathlib.Core.Bool.{Bool, true, false, cond}
use Prim.Native.Nat.{ℕ, ◌%◌, ◌^◌, zero-le}
use native.Mathlib.Nat.{zero-mul, zero-div, zero-mod}
use borrow.Author.Tests.{le-ltb}
use lib.Bits.{and_zero_l, and_zero_r}
use lib.Dec.{T, eqb, ltb, eqb→eq}
use Rattle.net.proofs.Bools.{T_of, cond_case, or_cases, or_left, or_right}
use Rattle.circuit.specs.declared.operator.Operator.{Operator}
use Rattle.circuit.specs.declared.operator.Operator.TheVariants.{Add, Sub, And, Or, Xor, Equal, Less, ShiftLeft, ShiftRight}
use Rattle.circuit.specs.Operator.{apply, result}
use Rattle.fact.specs.declared.Fact.TheVariants.{Always}
use Rattle.fact.specs.Rule.{zero_decides, operator_rule}

-- the zeros that decide still do where there are more
pub decides_up : (op : Operator) (a b a' b' : Bool) → (T a → T a') → (T b → T b') → T (zero_decides op a b)
    → T (zero_decides op a' b')
decides_up Add a b a' b' f g t = t
decides_up Sub a b a' b' f g t = t
decides_up And a b a' b' f g t = or_cases a b t (λ x. or_left a' b' (f x)) (λ y. or_right a' b' (g y))
decides_up Or a b a' b' f g t = t
decides_up Xor a b a' b' f g t = t
decides_up Equal a b a' b' f g t = t
decides_up Less a b a' b' f g t = g t
decides_up ShiftLeft a b a' b' f g t = f t
decides_up ShiftRight a b a' b' f g t = f t

-- no zero, no decision
pub undecided : (op : Operator) → zero_decides op false false ≡ false
undecided Add = refl
undecided Sub = refl
undecided And = refl
undecided Or = refl
undecided Xor = refl
undecided Equal = refl
undecided Less = refl
undecided ShiftLeft = refl
undecided ShiftRight = refl

-- where a zero decides, the result is 0
pub decided_result : (op : Operator) (w a b : ℕ) → T (zero_decides op (eqb a 0) (eqb b 0)) → result op w a b ≡ 0
unfolding result
decided_result op w a b t = ap (λ x. x % 2 ^ w) (applied op t) ∙ zero-mod (2 ^ w)
  where
    same : (t : Bool) → ◌≡◌ {A = ℕ} (cond t 0 0) 0
    same true = refl
    same false = refl

    applied : (op : Operator) → T (zero_decides op (eqb a 0) (eqb b 0)) → apply op w a b ≡ 0
    applied Add t = absurd t
    applied Sub t = absurd t
    applied And t =
        or_cases (eqb a 0) (eqb b 0) t (λ x. rw (eqb→eq a 0 x) (and_zero_l b)) (λ y. rw (eqb→eq b 0 y) (and_zero_r a))
    applied Or t = absurd t
    applied Xor t = absurd t
    applied Equal t = absurd t
    applied Less t = rw (eqb→eq b 0 t, le-ltb a 0 zero-le)
    applied ShiftLeft t = rw (eqb→eq a 0 t, zero-mul (2 ^ b)) (same (ltb b 32))
    applied ShiftRight t = rw (eqb→eq a 0 t, zero-div (2 ^ b)) (same (ltb b 32))

-- so of two numbers the rule gives the result, decided or not
pub known_both : (op : Operator) (w a b : ℕ) {n : ℕ} → n ≡ result op w a b
    → Always n ≡ operator_rule op w (Always a) (Always b)
known_both op w a b {n} e =
    cond_case (λ f. Always n ≡ f) decides (λ t. ap Always (e ∙ decided_result op w a b (T_of decides t)))
    (λ _. ap Always e)
  where
    decides : Bool
    decides = zero_decides op (eqb a 0) (eqb b 0)

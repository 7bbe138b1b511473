-- The nine operators: their codes and their results, with the width as a parameter.
-- Assumes nothing.
use Rattle.std.specs.Prelude.{ℕ, ◌+◌, ◌-◌, ◌*◌, ◌/◌, ◌%◌, ◌^◌, cond, List, [], ◌∷◌, map, ◌==◌, bit_and, bit_or, bit_xor, nat_lt, slice_index_or}
use Rattle.circuit.specs.declared.operator.Operator.{Operator}
use Rattle.std.specs.Prelude.{Option}
use Rattle.std.specs.Prelude.{Some, None}
use Rattle.circuit.specs.declared.operator.Operator.TheVariants.{Add, Sub, And, Or, Xor, Equal, Less, ShiftLeft, ShiftRight}

-- document 01's code of each operator
abbrev pub operator_code : Operator → ℕ
operator_code Add = 0
operator_code Sub = 1
operator_code And = 2
operator_code Or = 3
operator_code Xor = 4
operator_code Equal = 5
operator_code Less = 6
operator_code ShiftLeft = 7
operator_code ShiftRight = 8

-- the operators in the order of their codes
abbrev pub operators : List Operator
operators = Add ∷ Sub ∷ And ∷ Or ∷ Xor ∷ Equal ∷ Less ∷ ShiftLeft ∷ ShiftRight ∷ []

-- the operator of a code; ground 7 turns away every code past the last, which reads as the last here
abbrev pub operator_of : ℕ → Operator
operator_of code = slice_index_or operators code ShiftRight

-- the operator of a code, if it has one
abbrev pub read_operator : ℕ → Option Operator
read_operator code = slice_index_or (map Some operators) code None

-- What an operator makes of a and b before the remainder by 2^w. Numbers have no sign here, so a - b is a number that
-- differs from it by a multiple of 2^w.
abbrev pub apply : Operator → ℕ → ℕ → ℕ → ℕ
apply Add w a b = a + b
apply Sub w a b = a + (2 ^ w - b % 2 ^ w)
apply And w a b = bit_and a b
apply Or w a b = bit_or a b
apply Xor w a b = bit_xor a b
apply Equal w a b = cond (a == b) 1 0
apply Less w a b = cond (nat_lt a b) 1 0
apply ShiftLeft w a b = cond (nat_lt b 32) (a * 2 ^ b) 0
apply ShiftRight w a b = cond (nat_lt b 32) (a / 2 ^ b) 0

-- the operator's result at width w
unfoldable pub result : Operator → ℕ → ℕ → ℕ → ℕ
result op w a b = apply op w a b % 2 ^ w

-- the result of what a code reads as, 0 where it has no operator
abbrev pub result_of : Option Operator → ℕ → ℕ → ℕ → ℕ
result_of (Some op) w a b = result op w a b
result_of None w a b = 0

abbrev pub result_of_code : ℕ → ℕ → ℕ → ℕ → ℕ
result_of_code code w a b = result_of (read_operator code) w a b

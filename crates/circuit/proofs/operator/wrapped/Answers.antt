-- Each code's number at 32 bits has the result's remainder at every width.
-- Assumes nothing.
use Rattle.std.proofs.Common.{◌≡◌, Bool, true, false, cond, refl, arith}
use mir.Val.{bool_byte}
use Rattle.circuit.specs.Operator.{result}
use Rattle.circuit.proofs.Operators.{add_wraps, sub_wraps, shift_left_wraps, shift_right_wraps}
use Rattle.circuit.proofs.operator.wrapped.Goals as goal

-- a test as a number
as_bit : (b : Bool) → bool_byte b ≡ cond b 1 0
as_bit true = refl
as_bit false = refl

pub returns-in-0 : goal.returns-in-0
returns-in-0 c = λ w h. rw c.in-0.is (add_wraps _ _ _ refl w h)

pub returns-in-1 : goal.returns-in-1
returns-in-1 c = λ w h. rw c.in-1.is (sub_wraps _ _ _ (omega arith) w h)

pub returns-in-2 : goal.returns-in-2
unfolding result
returns-in-2 c = λ w h. rw c.in-2.is

pub returns-in-3 : goal.returns-in-3
unfolding result
returns-in-3 c = λ w h. rw c.in-3.is

pub returns-in-4 : goal.returns-in-4
unfolding result
returns-in-4 c = λ w h. rw c.in-4.is

pub returns-in-5 : goal.returns-in-5
unfolding result
returns-in-5 c = λ w h. rw (c.in-5.is, c.from.ensures, as_bit)

pub returns-in-6 : goal.returns-in-6
unfolding result
returns-in-6 c = λ w h. rw (c.in-6.is, c.from-in-6.ensures, as_bit)

pub returns-in-7 : goal.returns-in-7
returns-in-7 c = λ w h. rw c.in-7.is (shift_left_wraps _ _ _ c.shift_left.ensures w h)

pub returns-in-8 : goal.returns-in-8
returns-in-8 c = λ w h. rw c.in-8.is (shift_right_wraps _ _ _ c.shift_right.ensures w h)

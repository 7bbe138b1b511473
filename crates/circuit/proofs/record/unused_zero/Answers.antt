-- A field that the record uses is passed as 0, which changes nothing.
-- Assumes nothing.
use Rattle.net.specs.Tests.{every}
use Rattle.circuit.proofs.record.unused_zero.Goals as goal

pub returns-in-Fixed : goal.returns-in-Fixed
unfolding every
returns-in-Fixed c = rw (c.in-Input.is, c.in-Fixed.is) c.all_zero.ensures

pub returns-in-Constant : goal.returns-in-Constant
unfolding every
returns-in-Constant c = rw c.in-Constant.is c.all_zero-in-Constant.ensures

pub returns-in-Operator : goal.returns-in-Operator
unfolding every
returns-in-Operator c = rw c.in-Operator.is c.all_zero-in-Operator.ensures

pub returns-in-Multiplexer : goal.returns-in-Multiplexer
unfolding every
returns-in-Multiplexer c = rw c.in-Multiplexer.is c.all_zero-in-Multiplexer.ensures

pub returns-in-Register : goal.returns-in-Register
unfolding every
returns-in-Register c = rw c.in-Register.is c.all_zero-in-Register.ensures

pub returns-in-Enabled : goal.returns-in-Enabled
unfolding every
returns-in-Enabled c = rw c.in-Enabled.is c.all_zero-in-Enabled.ensures

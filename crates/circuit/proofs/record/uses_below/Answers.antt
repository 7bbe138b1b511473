-- Asking twice of a variable is asking once.
-- Assumes nothing.
use Rattle.std.proofs.Common.{◌∙◌}
use Rattle.net.specs.Tests.{every}
use Rattle.circuit.proofs.Records.{and_twice}
use Rattle.circuit.proofs.record.uses_below.Goals as goal

pub returns-in-Input : goal.returns-in-Input
unfolding every
returns-in-Input c = rw c.in-Input.is

pub returns-in-Constant : goal.returns-in-Constant
unfolding every
returns-in-Constant c = rw c.in-Constant.is

pub returns-in-Operator : goal.returns-in-Operator
unfolding every
returns-in-Operator c = rw c.in-Operator.is (c.all_below.ensures ∙ rw and_twice)

pub returns-in-Register : goal.returns-in-Register
unfolding every
returns-in-Register c = rw c.in-Register.is (c.all_below-in-Register.ensures ∙ rw (and_twice, and_twice))

pub returns-in-Enabled : goal.returns-in-Enabled
unfolding every
returns-in-Enabled c = rw c.in-Enabled.is (c.all_below-in-Enabled.ensures ∙ rw and_twice)

-- Inputs and registers are written, and the wires settle.
-- Assumes nothing.
use Rattle.circuit.specs.Machine.{power_on}
use Rattle.buffer.proofs.Store.{holds_moves}
use Rattle.machine.proofs.pass.power_on.Goals as goal

pub returns : goal.returns
unfolding power_on
returns c = holds_moves c.write_initial.ensures c.settle.ensures

-- The registers' next values are staged and written, and the wires settle.
-- Assumes nothing.
use Rattle.engine.specs.Plans.{circuit_of}
use Rattle.machine.proofs.Acting.{tick_moves}
use Rattle.machine.proofs.tick.tick.Goals as goal

pub returns-clause-moves : goal.returns-clause-moves
returns-clause-moves c = tick_moves (circuit_of c.args.plan.now) c.commit.ensures c.settle.ensures

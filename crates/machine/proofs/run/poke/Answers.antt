-- One number is stored, and the wires settle.
-- Assumes nothing.
use Rattle.engine.specs.Plans.{circuit_of}
use Rattle.machine.proofs.Acting.{poke_moves}
use Rattle.machine.proofs.run.poke.Goals as goal

pub returns : goal.returns
returns c =
    let x = c.args in
    poke_moves (circuit_of x.plan.now) x.v x.x c.requires.below c.requires.lent c.settle.ensures

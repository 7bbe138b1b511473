-- The loop's invariant: the first k registers have their staged values.
-- Assumes nothing.
use Rattle.buffer.specs.Store.{numbers, Moves}
use Rattle.circuit.specs.Machine as machine
use Rattle.engine.specs.Plans.{circuit_of}
use Rattle.engine.proofs.Together.{together}
use Rattle.machine.proofs.tick.commit.Given as goal

abbrev pub invariant-loop-k : goal.invariant-loop-k
invariant-loop-k l =
    let C = circuit_of l.plan in
    Moves numbers l.plan.table.records (together C (machine.values C) l.k) l.fn.values l.values

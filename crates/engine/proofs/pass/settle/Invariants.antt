-- The loop's invariant: the first wires of the order have taken their values.
-- Assumes nothing.
use Rattle.std.proofs.Common.{◌≤◌, length}
use Rattle.buffer.specs.Store.{Moves}
use Rattle.circuit.specs.Tables.{circuit_of}
use Rattle.engine.proofs.Along.{along}
use Rattle.engine.proofs.pass.settle.Given as goal

abbrev pub invariant-loop-wire : goal.invariant-loop-wire
invariant-loop-wire g l =
    let S = g.S.Store in
    record {
      most : l.wire-index ≤ length l.wires;
      moves : Moves S.layout l.table.records (along (g.R.Rule.values (circuit_of l.table)) l.wires l.wire-index)
          (S.as_numbers l.fn.cells) (S.as_numbers l.cells);
    }

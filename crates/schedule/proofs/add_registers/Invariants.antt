-- The loop's invariant: the registers before variable v are written, and the others of the list follow.
-- Assumes nothing.
use Rattle.std.proofs.Common.{get_or}
use Rattle.circuit.specs.Tables.{circuit_of}
use Rattle.schedule.specs.Schedule.{register_list}
use Rattle.buffer.specs.Kept.{Filled}
use Rattle.schedule.proofs.Registers.{Written}
use Rattle.schedule.proofs.add_registers.Given as goal

abbrev pub invariant-loop-v : goal.invariant-loop-v
invariant-loop-v l = record {
  written : Written (circuit_of l.table) l.table.records l.count l.v;
  filled : Filled l.wires l.count (λ j. get_or (register_list (circuit_of l.table)) j 0) l.fn.s l.s;
}

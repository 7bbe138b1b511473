-- The loop's invariant: the reader is at the stimulus behind those that it has given, and they have acted.
-- Assumes nothing.
use Rattle.std.proofs.Common.{length}
use Rattle.machine.proofs.Reading.{ReadTo}
use Rattle.machine.proofs.Running.{RanTo}
use Rattle.machine.proofs.run.run.Given as goal

abbrev pub invariant-loop-read : goal.invariant-loop-read
invariant-loop-read l =
    let i = length l.yielded in
    record {
      reader : ReadTo l.s i l.read-iterator;
      ran : RanTo l.plan l.s l.fn.staging l.fn.values l.staging l.values i;
    }

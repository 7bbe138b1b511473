-- The loop's invariant: the reader is at stimulus i, and what the checks find is what they find from there on.
-- Assumes nothing.
use Rattle.std.proofs.Common.{◌≡◌, ◌-◌, ◌/◌, length}
use Rattle.std.specs.Iterator.Adapters.{enumerate_source, enumerate_count}
use Rattle.circuit.specs.Tables.{circuit_of}
use Rattle.circuit.specs.Stimuli.{check_stimuli_from}
use Rattle.machine.proofs.Reading.{ReadTo}
use Rattle.machine.proofs.checks.check_each.Given as goal

abbrev pub invariant-loop-i : goal.invariant-loop-i
invariant-loop-i l =
    let i = enumerate_count l.i-iterator in
    record {
      reader : ReadTo l.s i (enumerate_source l.i-iterator);
      found : check_stimuli_from (circuit_of l.table) l.s (length l.s / 8) 0
          ≡ check_stimuli_from (circuit_of l.table) l.s (length l.s / 8 - i) i;
    }

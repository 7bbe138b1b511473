-- The loop's invariant: those of the variables before v that remain are written.
-- Assumes nothing.
use Rattle.trim.proofs.Writing.{Writing}
use Rattle.trim.proofs.write.write_survivors.Given as goal

abbrev pub invariant-loop-v : goal.invariant-loop-v
invariant-loop-v l = Writing l.table.bytes.now l.table.records l.certificate l.s l.fn.trimmed l.trimmed l.fn.numbers l.numbers l.k l.v

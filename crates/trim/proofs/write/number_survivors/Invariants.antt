-- The loop's invariant: the numbers of the variables before v are written.
-- Assumes nothing.
use Rattle.trim.proofs.Numbering.{Numbering}
use Rattle.trim.proofs.write.number_survivors.Given as goal

abbrev pub invariant-loop-v : goal.invariant-loop-v
invariant-loop-v l = Numbering l.table.bytes.now l.table.records l.fn.s l.s l.count l.v

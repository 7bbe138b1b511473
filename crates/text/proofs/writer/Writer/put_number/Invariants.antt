-- The loop's invariant: the digits of the number past those of what is left are put. The measure is what is left.
-- Assumes nothing.
use Rattle.text.proofs.Pieces.{PutsDigits}
use Rattle.text.proofs.writer.Writer.put_number.Given as goal

abbrev pub invariant-loop-rest : goal.invariant-loop-rest
invariant-loop-rest l = PutsDigits l.n l.rest l.fn.self l.self

abbrev pub decreases-loop-rest : goal.decreases-loop-rest
decreases-loop-rest l = l.rest

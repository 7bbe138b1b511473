-- The line's end, the number and the word.
-- Assumes nothing.
use Rattle.std.proofs.Common.{arith}
use Rattle.text.proofs.Decimal.{decimal_short}
use Rattle.text.proofs.Pieces.{puts_then}
use Rattle.text.proofs.writer.Writer.put_number_line.Goals as goal

pub put_number-requires : goal.put_number-requires
put_number-requires c = omega (arith, decimal_short 9 c.from.result (omega arith))

pub put_word-requires : goal.put_word-requires
put_word-requires c = omega (arith, decimal_short 9 c.from.result (omega arith))

pub returns : goal.returns
returns c =
    rw (← c.from.ensures) (puts_then (puts_then c.put_byte.ensures c.put_number.ensures) c.put_word.ensures)

-- The line's end, the numbers from 1 on, and number 0.
-- Assumes nothing.
use Rattle.std.proofs.Common.{arith}
use Rattle.text.proofs.Decimal.{decimal_short}
use Rattle.text.proofs.Pieces.{puts_then}
use Rattle.text.proofs.writer.Writer.put_row.Goals as goal

pub put_number-requires : goal.put_number-requires
put_number-requires c = omega (arith, decimal_short 4 c.from.result (omega arith))

pub returns-clause-put : goal.returns-clause-put
returns-clause-put c =
    rw (← c.from.ensures) (puts_then (puts_then c.put_byte.ensures c.put_spaced.ensures.put) c.put_number.ensures)

pub returns-clause-at_bound : goal.returns-clause-at_bound
returns-clause-at_bound c = omega (arith, decimal_short 4 c.from.result (omega arith))

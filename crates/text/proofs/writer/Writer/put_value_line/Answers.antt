-- The line's end, the value, a space and the variable.
-- Assumes nothing.
use Rattle.std.proofs.Common.{arith}
use Rattle.text.proofs.Decimal.{decimal_short}
use Rattle.text.proofs.Pieces.{puts_then}
use Rattle.text.proofs.writer.Writer.put_value_line.Goals as goal

pub put_number-requires : goal.put_number-requires
put_number-requires c = omega (arith, decimal_short 9 c.from.result (omega arith))

pub put_byte-requires-2 : goal.put_byte-requires-2
put_byte-requires-2 c = omega (arith, decimal_short 9 c.from.result (omega arith))

pub put_number-requires-2 : goal.put_number-requires-2
put_number-requires-2 c = omega (arith, decimal_short 9 c.from.result (omega arith), decimal_short 3 c.args.v (omega arith))

pub returns-clause-put : goal.returns-clause-put
returns-clause-put c =
    rw (← c.from.ensures)
    (puts_then (puts_then (puts_then c.put_byte.ensures c.put_number.ensures) c.put_byte-2.ensures) c.put_number-2.ensures)

pub returns-clause-at_bound : goal.returns-clause-at_bound
returns-clause-at_bound c = omega (arith, decimal_short 9 c.from.result (omega arith), decimal_short 3 c.args.v (omega arith))

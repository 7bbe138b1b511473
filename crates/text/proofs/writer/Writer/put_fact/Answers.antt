-- A number, and the word before it.
-- Assumes nothing.
use Rattle.std.proofs.Common.{arith}
use Rattle.text.proofs.Decimal.{decimal_short}
use Rattle.text.proofs.Pieces.{puts_then}
use Rattle.text.proofs.writer.Writer.put_fact.Goals as goal

pub put_number-requires : goal.put_number-requires
put_number-requires c = omega (arith, decimal_short 9 c.from.result (omega arith))

pub put_word-requires : goal.put_word-requires
put_word-requires c = omega (arith, decimal_short 9 c.from.result (omega arith))

pub returns-in-Always-clause-put : goal.returns-in-Always-clause-put
returns-in-Always-clause-put c =
    rw (c.in-Always.is, ← c.from.ensures) (puts_then c.put_number.ensures c.put_word.ensures)

pub returns-in-Always-clause-at_bound : goal.returns-in-Always-clause-at_bound
returns-in-Always-clause-at_bound c = omega (arith, decimal_short 9 c.from.result (omega arith))

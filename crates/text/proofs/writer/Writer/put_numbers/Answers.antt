-- A turn puts one line more.
-- Assumes nothing.
use Rattle.std.proofs.Common.{arith}
use Rattle.text.proofs.Decimal.{decimal_short}
use Rattle.text.proofs.Pieces.{puts_then}
use Rattle.text.proofs.Rows.{no_pieces, one_more}
use Rattle.text.proofs.writer.Writer.put_numbers.Goals as goal

pub loop-i-init : goal.loop-i-init
loop-i-init c = record { put = no_pieces _ _ _; room = omega arith }

pub put_number-requires : goal.put_number-requires
put_number-requires c = omega (arith, decimal_short 4 c.from.result (omega arith))

pub loop-i-preserved : goal.loop-i-preserved
loop-i-preserved c =
    let line = puts_then c.put_byte.ensures c.put_number.ensures in record {
      put = one_more _ _ _ (omega arith) (omega arith) c.loop-i.invariant.put (rw c.from.ensures at line);
      room = omega (arith, decimal_short 4 c.from.result (omega arith));
    }

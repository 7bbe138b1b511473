-- A turn puts one number more, and the space before it.
-- Assumes nothing.
use Rattle.std.proofs.Common.{◌≡◌, arith}
use Rattle.text.proofs.Decimal.{decimal_short}
use Rattle.text.proofs.Pieces.{puts_then}
use Rattle.text.proofs.Rows.{no_pieces, one_more}
use Rattle.text.proofs.writer.Writer.put_spaced.Goals as goal

pub loop-i-init : goal.loop-i-init
loop-i-init c = record { least = omega arith; put = no_pieces _ _ _; room = omega arith }

pub put_number-requires : goal.put_number-requires
put_number-requires c = omega (arith, decimal_short 4 c.from.result (omega arith))

pub put_byte-requires : goal.put_byte-requires
put_byte-requires c = omega (arith, decimal_short 4 c.from.result (omega arith))

pub loop-i-preserved : goal.loop-i-preserved
loop-i-preserved c =
    let piece = puts_then c.put_number.ensures c.put_byte.ensures in record {
      least = omega arith;
      put = one_more _ _ _ (omega arith) (omega arith) c.loop-i.invariant.put (rw c.from.ensures at piece);
      room = omega (arith, decimal_short 4 c.from.result (omega arith));
    }

pub returns-clause-put : goal.returns-clause-put
returns-clause-put c =
    let end : c.loop-i.i ≡ 1 = omega arith in rw end at c.loop-i.invariant.put

pub returns-clause-at_bound : goal.returns-clause-at_bound
returns-clause-at_bound c = let end : c.loop-i.i ≡ 1 = omega arith in omega arith

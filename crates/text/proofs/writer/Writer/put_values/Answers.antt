-- A turn puts one line more.
-- Assumes nothing.
use Rattle.std.proofs.Common.{arith}
use Rattle.text.proofs.Rows.{no_pieces, one_more}
use Rattle.text.proofs.writer.Writer.put_values.Goals as goal

pub loop-v-init : goal.loop-v-init
loop-v-init c = record { put = no_pieces _ _ _; room = omega arith }

pub loop-v-preserved : goal.loop-v-preserved
loop-v-preserved c = record {
  put = one_more _ _ _ (omega arith) (omega arith) c.loop-v.invariant.put c.put_value_line.ensures.put;
  room = omega arith;
}

-- A turn puts one line more.
-- Assumes nothing.
use Rattle.std.proofs.Common.{◌-◌, ap, arith}
use Rattle.fact.specs.declared.Fact.{Fact}
use Rattle.text.specs.Text.{fact_line}
use Rattle.text.proofs.Pieces.{puts_as}
use Rattle.text.proofs.Rows.{no_pieces, one_more}
use Rattle.text.proofs.writer.Writer.put_facts.Goals as goal

pub loop-v-init : goal.loop-v-init
loop-v-init c = record { put = no_pieces _ _ _; room = omega arith }

pub loop-v-preserved : goal.loop-v-preserved
loop-v-preserved c = record {
  put =
      one_more _ _ _ (omega arith) (omega arith) c.loop-v.invariant.put
      (puts_as (ap (λ (f : Fact). fact_line (c.loop-v.v - 1) f) c.load.ensures) c.put_fact_line.ensures.put);
  room = omega arith;
}

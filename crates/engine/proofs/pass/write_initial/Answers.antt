-- Each turn writes one value more.
-- Assumes nothing.
use Rattle.std.proofs.Common.{refl, sym, ap, ◌∙◌}
use Rattle.circuit.proofs.Tables.{circuit_record}
use Rattle.engine.proofs.Passes.{one_begun}
use Rattle.engine.proofs.pass.write_initial.Goals as goal

pub loop-v-preserved : goal.loop-v-preserved
loop-v-preserved g c =
    let t = c.args.table.now in
    let h = c.loop-v-test.true in
    let is = c.record_at.ensures ∙ sym (circuit_record t.bytes.now t.records c.loop-v.v h) in
    one_begun g.met.S.Store.laws c.loop-v.invariant h refl (c.initial.ensures ∙ ap g.R.Rule.initial is) c.store.ensures

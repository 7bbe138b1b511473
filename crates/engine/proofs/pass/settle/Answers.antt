-- Each turn gives one wire more its value.
-- Assumes nothing.
use Rattle.std.proofs.Common.{refl, arith}
use Rattle.engine.proofs.Standing.{placed, ordered_below, ordered_evaluable}
use Rattle.engine.proofs.Passes.{gives_off, none_passed, one_settled, all_settled}
use Rattle.engine.proofs.pass.settle.Goals as goal

pub wire-x-requires : goal.wire-x-requires
wire-x-requires g c =
    ordered_evaluable c.args.table.now c.requires.ordered c.loop-wire-test.true c.from-v.ensures
    (omega (arith, c.requires.lent, c.loop-wire.invariant.moves.kept.long))

pub store-requires : goal.store-requires
store-requires g c =
    let t = c.args.table.now in
    placed g.S.Store.layout.each t.records c.from-v.result (ordered_below t.bytes.now t.records c.requires.ordered c.loop-wire-test.true c.from-v.ensures)
    (omega (arith, c.requires.lent, c.loop-wire.invariant.moves.kept.long))

pub loop-wire-init : goal.loop-wire-init
loop-wire-init g c =
    let t = c.args.table.now in
    record {
      most = omega arith;
      moves = none_passed g.met.S.Store.laws (g.met.R.Rule.lawful t.bytes.now t.records t.checked) _ _;
    }

pub loop-wire-preserved : goal.loop-wire-preserved
loop-wire-preserved g c =
    let t = c.args.table.now in
    let layout = g.met.S.Store.laws in
    let laws = g.met.R.Rule.lawful t.bytes.now t.records t.checked in
    let h = c.loop-wire-test.true in
    let e = c.from-v.ensures in
    record {
      most = omega arith;
      moves =
          one_settled layout laws t.checked c.requires.ordered c.loop-wire.invariant.moves h e
          (gives_off layout laws (ordered_below t.bytes.now t.records c.requires.ordered h e) c.wire-x.ensures) refl c.store.ensures;
    }

pub returns : goal.returns
returns g c =
    let t = c.args.table.now in
    all_settled g.met.S.Store.laws (g.met.R.Rule.lawful t.bytes.now t.records t.checked) t.checked c.requires.ordered
    c.loop-wire.invariant.moves (omega arith)

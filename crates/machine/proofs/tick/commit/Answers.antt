-- Each register takes what was staged for it, whatever those before it took.
-- Assumes nothing.
use Rattle.std.proofs.Common.{sym, ap, ◌∙◌, mul-one, arith}
use Rattle.buffer.proofs.Layouts.{numbers_laws, wrote_number}
use Rattle.buffer.proofs.Store.{stands_read}
use Rattle.circuit.specs.Machine as machine
use Rattle.engine.specs.Plans.{circuit_of}
use Rattle.engine.proofs.Standing.{plan_listed, plan_register_at, plan_register_below}
use Rattle.engine.proofs.Passes.{none_committed, one_stepped, all_stepped}
use Rattle.machine.specs.State.{state}
use Rattle.machine.specs.Lawful.{lawful}
use Rattle.machine.proofs.Staging.{gives_value}
use Rattle.machine.proofs.tick.commit.Goals as goal

pub loop-k-init : goal.loop-k-init
loop-k-init c = none_committed numbers_laws (lawful c.args.plan.now.table.checked) _ _

pub bounds-values-v : goal.bounds-values-v
bounds-values-v c =
    omega (
      arith,
      plan_register_below c.args.plan.now c.loop-k-test.true c.from-v.ensures,
      c.loop-k.invariant.kept.long,
      c.requires.lent,
    )

pub loop-k-preserved : goal.loop-k-preserved
loop-k-preserved c =
    let x = c.args in
    let p = x.plan.now in
    let moves = c.loop-k.invariant in
    let h = c.loop-k-test.true in
    let e = c.from-v.ensures in
    let below = plan_register_below p h e in
    one_stepped numbers_laws (lawful p.table.checked) moves (plan_listed p h e) (plan_register_at p h e)
    (gives_value p.table.checked below
    (c.load.ensures ∙ stands_read c.requires.stands c.loop-k.k h
    ∙ ap (machine.values (circuit_of p) (state x.values.now)) (sym (plan_register_at p h e))))
    (sym (mul-one _))
    (wrote_number _ _ _ (omega (arith, below, moves.kept.long, c.requires.lent)))

pub returns : goal.returns
returns c =
    let p = c.args.plan.now in
    all_stepped numbers_laws (lawful p.table.checked) c.loop-k.invariant (rw (← p.listed) (omega arith))

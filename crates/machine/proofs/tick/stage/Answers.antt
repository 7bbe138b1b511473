-- Each register's next value is staged.
-- Assumes nothing.
use Rattle.std.proofs.Common.{refl, ap, ◌∙◌, arith}
use Rattle.circuit.specs.Machine.{values}
use Rattle.engine.specs.Plans.{circuit_of}
use Rattle.engine.proofs.Standing.{plan_register_at, plan_register}
use Rattle.engine.proofs.Passes.{none_begun, one_begun}
use Rattle.machine.specs.State.{state}
use Rattle.machine.proofs.Staging.{halves_laws}
use Rattle.machine.proofs.tick.stage.Goals as goal

pub loop-j-init : goal.loop-j-init
loop-j-init c = none_begun _

pub register_value-x-requires-clause-evaluable : goal.register_value-x-requires-clause-evaluable
register_value-x-requires-clause-evaluable c =
    plan_register c.args.plan.now c.loop-j-test.true c.from.ensures (omega (arith, c.requires.lent))

pub loop-j-preserved : goal.loop-j-preserved
loop-j-preserved c =
    let x = c.args in
    let p = x.plan.now in
    let h = c.loop-j-test.true in
    one_begun halves_laws c.loop-j.invariant h refl
    (c.register_value-x.ensures ∙ ap (values (circuit_of p) (state x.values.now)) (plan_register_at p h c.from.ensures))
    c.store.ensures

-- Each turn takes a variable off the stack and visits its uses.
-- Assumes nothing.
use Rattle.std.proofs.Common.{arith}
use Rattle.trim.proofs.Visiting.{spread_then, taken_few}
use Rattle.trim.proofs.reach.visit_all.Goals as goal

pub overflow_add-n : goal.overflow_add-n
overflow_add-n c = omega (arith, taken_few c.loop-stacked.invariant.visiting, c.args.table.now.checked.small)

pub offset_bounds-s-n : goal.offset_bounds-s-n
offset_bounds-s-n c = omega (arith, taken_few c.loop-stacked.invariant.visiting, c.args.table.now.checked.small)

pub bounds-s-n : goal.bounds-s-n
bounds-s-n c =
    let p = c.loop-stacked.invariant.visiting in
    omega (arith, taken_few p, p.lent, c.loop-stacked-test.true)

pub loop-stacked-smaller : goal.loop-stacked-smaller
loop-stacked-smaller c =
    omega (
      arith,
      c.loop-stacked-test.true,
      taken_few c.loop-stacked.invariant.visiting,
      taken_few c.visit_uses-stacked.ensures.visiting_after,
      c.visit_uses-stacked.ensures.waiting_after,
    )

pub loop-stacked-preserved : goal.loop-stacked-preserved
loop-stacked-preserved c = record {
  visiting = c.visit_uses-stacked.ensures.visiting_after;
  spread = spread_then c.loop-stacked.invariant.spread c.visit_uses-stacked.ensures.spread;
}

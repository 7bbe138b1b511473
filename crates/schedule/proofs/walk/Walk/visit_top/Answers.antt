-- One step for each thing that is found at the top.
-- Assumes nothing.
use Rattle.std.proofs.Common.{arith}
use Rattle.schedule.proofs.Steps as steps
use Rattle.schedule.proofs.walk.Walk.visit_top.Goals as goal

pub push-requires : goal.push-requires
push-requires c =
    let f = c.in-Unvisited.ensures in
    let w = c.requires.walking in
    omega (
      arith,
      f.below,
      steps.room w _ f.below f.unvisited,
      w.lent,
      w.invariant.top_most,
      c.args.table.checked.small,
    )

pub returns-in-NoneLeft-clause-ok : goal.returns-in-NoneLeft-clause-ok
returns-in-NoneLeft-clause-ok c =
    steps.popped c.requires.walking _ _ _ c.requires.top_in_bounds c.in-NoneLeft.ensures c.pop.ensures.fields_after
    c.pop.ensures.s_after

pub returns-in-Done-clause-ok : goal.returns-in-Done-clause-ok
returns-in-Done-clause-ok c =
    steps.advanced c.requires.walking _ _ c.requires.top_in_bounds c.in-Done.ensures c.advance.ensures

pub returns-in-Unvisited-clause-ok : goal.returns-in-Unvisited-clause-ok
returns-in-Unvisited-clause-ok c =
    let f = c.in-Unvisited.ensures in
    steps.pushed c.requires.walking _ _ _ f.below f.wire f.unvisited (λ h. (f.more, f.uses))
    c.push.ensures.fields_after c.push.ensures.s_after

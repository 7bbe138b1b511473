-- Each turn visits a kept variable.
-- Assumes nothing.
use Rattle.trim.proofs.Visiting.{kept_room, one_kept}
use Rattle.trim.proofs.reach.visit_kept.Goals as goal

pub visit-stacked-requires-clause-waiting_lt_n : goal.visit-stacked-requires-clause-waiting_lt_n
visit-stacked-requires-clause-waiting_lt_n c =
    kept_room c.requires.kept_below c.loop-u.invariant c.loop-u-test.true c.from.ensures

pub loop-u-preserved : goal.loop-u-preserved
loop-u-preserved c =
    one_kept c.requires.kept_below c.loop-u.invariant c.loop-u-test.true c.from.ensures c.visit-stacked.ensures

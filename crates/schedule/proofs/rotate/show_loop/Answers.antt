-- The loop is found and its lowest variable is found; it is copied, and turned in two parts.
-- Assumes nothing.
use Rattle.std.proofs.Common.{arith}
use Rattle.schedule.proofs.Rotation.{shown}
use Rattle.schedule.proofs.rotate.show_loop.Goals as goal

pub returns : goal.returns
returns c =
    shown _ _ _ _ _ _ _ _ _ _ c.find-p.ensures c.lowest-m.ensures.lower_bound c.lowest-m.ensures.by_index
    c.requires.n_in_bounds.0 (omega (arith, c.loop-i-test.false, c.loop-i.auto.i-end)) c.loop-i.invariant.copied
    c.reverse.ensures.len c.reverse.ensures.by_index c.reverse-2.ensures.len c.reverse-2.ensures.by_index

-- The loop's invariant: the walk's own, and what lies past the states is as it was. The measure is what the roots and
-- the states are below their end.
-- Assumes nothing.
use Rattle.std.proofs.Common.{◌+◌, ◌-◌, ◌*◌}
use Rattle.net.specs.Net.{sum_below}
use Rattle.buffer.specs.Kept.{Kept}
use Rattle.schedule.specs.Walk.{state_of, Walking}
use Rattle.schedule.proofs.walk.visit_all.Given as goal

abbrev pub invariant-loop-w : goal.invariant-loop-w
invariant-loop-w l = record {
  walking : Walking l.table l.s l.w;
  kept : Kept (l.table.records + l.table.records) l.fn.s l.s;
}

abbrev pub decreases-loop-w : goal.decreases-loop-w
decreases-loop-w l = 6 * l.table.records - (l.w.root + sum_below (state_of l.table.records l.s) l.table.records)

-- The loop's invariant: the lowest so far.
-- Assumes nothing.
use Rattle.std.proofs.Common.{ℕ, ◌≤◌, ◌<◌, get_or}
use Rattle.schedule.proofs.rotate.lowest.Given as goal

abbrev pub invariant-loop-i : goal.invariant-loop-i
invariant-loop-i l = record {
  top_m : l.top ≤ l.m;
  m_i : l.m < l.i;
  least : (j : ℕ) → l.top ≤ j → j < l.i → get_or l.s l.m 0 ≤ get_or l.s j 0;
}

-- The loop's invariant: the numbers from i on are put, 6 bytes each at most.
-- Assumes nothing.
use Rattle.std.proofs.Common.{◌+◌, ◌-◌, ◌*◌, ◌≤◌}
use Rattle.text.specs.Text.{pieces, spaced}
use Rattle.text.specs.Writer.{Puts}
use Rattle.text.proofs.writer.Writer.put_spaced.Given as goal

abbrev pub invariant-loop-i : goal.invariant-loop-i
invariant-loop-i l = record {
  least : 1 ≤ l.i;
  put : Puts (pieces (spaced l.row) (l.size - l.i) l.i) l.fn.self l.self;
  room : l.fn.self.at ≤ l.self.at + (l.size - l.i) * 6;
}

-- The loop's invariant: the lines from variable v on are put, 16 bytes each at most.
-- Assumes nothing.
use Rattle.std.proofs.Common.{◌+◌, ◌-◌, ◌*◌, ◌≤◌, get_or}
use Rattle.text.specs.Text.{pieces, value_line}
use Rattle.text.specs.Writer.{Puts}
use Rattle.text.proofs.writer.Writer.put_values.Given as goal

abbrev pub invariant-loop-v : goal.invariant-loop-v
invariant-loop-v l = record {
  put : Puts (pieces (λ v. value_line v (get_or l.values v 0)) (l.n - l.v) l.v) l.fn.self l.self;
  room : l.fn.self.at ≤ l.self.at + (l.n - l.v) * 16;
}

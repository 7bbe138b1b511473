-- The loop's invariant: the lines from number i on are put, 6 bytes each at most.
-- Assumes nothing.
use Rattle.std.proofs.Common.{◌+◌, ◌-◌, ◌*◌, ◌≤◌, ◌++◌, get_or}
use Rattle.text.specs.Text.{pieces, decimal, newline}
use Rattle.text.specs.Writer.{Puts}
use Rattle.text.proofs.writer.Writer.put_numbers.Given as goal

abbrev pub invariant-loop-i : goal.invariant-loop-i
invariant-loop-i l = record {
  put : Puts (pieces (λ i. decimal (get_or l.numbers i 0) ++ newline) (l.n - l.i) l.i) l.fn.self l.self;
  room : l.fn.self.at ≤ l.self.at + (l.n - l.i) * 6;
}

-- The loop's invariant: the lines from variable v on are put, 23 bytes each at most.
-- Assumes nothing.
use Rattle.std.proofs.Common.{◌+◌, ◌-◌, ◌*◌, ◌≤◌}
use Rattle.fact.specs.Fact.{fact_at}
use Rattle.text.specs.Text.{pieces, fact_line}
use Rattle.text.specs.Writer.{Puts}
use Rattle.text.proofs.writer.Writer.put_facts.Given as goal

abbrev pub invariant-loop-v : goal.invariant-loop-v
invariant-loop-v l = record {
  put : Puts (pieces (λ v. fact_line v (fact_at l.certificate v)) (l.n - l.v) l.v) l.fn.self l.self;
  room : l.fn.self.at ≤ l.self.at + (l.n - l.v) * 23;
}

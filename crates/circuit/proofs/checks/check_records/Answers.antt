-- Record i is read, or refused at i; past the last nothing is left to read.
-- Assumes nothing.
use Rattle.std.proofs.Common.{sym, ap, ◌∙◌}
use Rattle.circuit.specs.Reading.{read_record}
use Rattle.circuit.proofs.Scan.{scan_start, scan_more, scan_refused, scan_end}
use Rattle.circuit.proofs.checks.check_records.Goals as goal

pub loop-i-init : goal.loop-i-init
loop-i-init c = scan_start c.args.t.now c.args.n

pub returns-in_default : goal.returns-in_default
returns-in_default c =
    c.at_record.ensures
    ∙ rw c.in_default.is (sym (c.loop-i.invariant
    ∙ scan_refused c.args.t.now c.args.n c.loop-i.i c.loop-i-test.true _
    (ap (λ f. read_record f c.args.n) (sym c.fields_at.ensures) ∙ sym c.read_record-read.ensures ∙ c.in_default.is)))

pub loop-i-preserved : goal.loop-i-preserved
loop-i-preserved c =
    c.loop-i.invariant
    ∙ scan_more c.args.t.now c.args.n c.loop-i.i c.loop-i-test.true _
    (ap (λ f. read_record f c.args.n) (sym c.fields_at.ensures) ∙ sym c.read_record-read.ensures ∙ c.in-Ok.is)

pub returns : goal.returns
returns c = sym (c.loop-i.invariant ∙ scan_end c.args.t.now c.args.n c.loop-i.i c.loop-i-test.false)

-- The length, then the facts.
-- Assumes nothing.
use Rattle.std.proofs.Common.{sym, ◌∙◌}
use Rattle.trim.proofs.Grounds.{certificate_refused, certificate_whole}
use Rattle.trim.proofs.checks.check_certificate.Goals as goal

pub returns-then-certificate-table : goal.returns-then-certificate-table
returns-then-certificate-table c =
    rw c.at.ensures (sym (certificate_refused _ _ _ c.if-certificate-table.true))

pub returns : goal.returns
returns c = c.check_facts.ensures ∙ sym (certificate_whole _ _ _ c.if-certificate-table.false)

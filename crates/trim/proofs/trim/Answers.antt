-- Where there is no loop, the order is cleared away; then one of grounds 20 to 22 is found, or the certificate and the
-- kept variables are as trimming needs them.
-- Assumes nothing.
use Rattle.std.proofs.Common.{sym, ◌∙◌}
use Rattle.std.proofs.lemmas.Result.{err_from_is_err_and}
use Rattle.trim.proofs.Grounds.{trimmable}
use Rattle.trim.proofs.Promise.{refused_later, trims}
use Rattle.trim.proofs.trim.Goals as goal

pub returns-in_err-check_trim : goal.returns-in_err-check_trim
returns-in_err-check_trim c =
    let a = c.args in
    let t = c.new-table.ensures in
    let p = err_from_is_err_and c.from_residual-in_err-check_trim.result c.from_residual-in_err-check_trim.ensures.1 in
    rw (p.1, p.2)
    (refused_later a.certificate.now a.kept.now a.bytes.now a.trimmed.now a.numbers.now a.scratch.now
    (sym c.check_table.ensures ∙ c.in_ok-check_table.was) (rw (t.0, t.1) at c.in_ok-schedule.ensures)
    (rw t.1 at c.clear.ensures) (sym (rw (t.0, t.1) at c.check_trim.ensures) ∙ c.in_err-check_trim.was))

pub trim_passed-requires-clause-trimmable : goal.trim_passed-requires-clause-trimmable
trim_passed-requires-clause-trimmable c =
    let a = c.args in
    let t = c.new-table in
    trimmable t.result.bytes.now t.result.records a.certificate.now a.kept.now _ _ t.result.checked
    (sym c.check_trim.ensures ∙ c.in_ok-check_trim.was)

pub returns : goal.returns
returns c =
    let a = c.args in
    let t = c.new-table.ensures in
    let d = c.trim_passed.ensures in
    trims a.certificate.now a.kept.now a.bytes.now a.trimmed.now a.numbers.now a.scratch.now
    (sym c.check_table.ensures ∙ c.in_ok-check_table.was) (rw (t.0, t.1) at c.in_ok-schedule.ensures)
    (rw t.1 at c.clear.ensures) (sym (rw (t.0, t.1) at c.check_trim.ensures) ∙ c.in_ok-check_trim.was)
    (rw (t.0, t.1) at d.value) (rw (t.0, t.1) at d.trimmed_after) (rw (t.0, t.1) at d.numbers_after)
    (rw t.1 at d.scratch_after)

-- An order gives the certificate.
-- Assumes nothing.
use Rattle.std.proofs.Common.{sym, ◌∙◌}
use Rattle.certificate.proofs.Promise.{ready, certified}
use Rattle.certificate.proofs.certify.Goals as goal

pub certify_ordered-requires : goal.certify_ordered-requires
certify_ordered-requires c =
    let (bytes, records) = c.new-checked.ensures in
    rw (bytes, records)
    (ready c.args.table.now c.args.certificate.now c.args.scratch.now
    (sym c.check_call.ensures ∙ c.in_ok-check_call.was) (rw (bytes, records) at c.in_ok-order.ensures))

pub returns : goal.returns
returns c =
    let (bytes, records) = c.new-checked.ensures in
    let d = rw (bytes, records) at c.certify_ordered.ensures in
    certified c.args.table.now c.args.certificate.now c.args.scratch.now
    (sym c.check_call.ensures ∙ c.in_ok-check_call.was) (rw (c.new-checked.ensures.0, c.new-checked.ensures.1) at c.in_ok-order.ensures) d.value d.holds d.scratch_after

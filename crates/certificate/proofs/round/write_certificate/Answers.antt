-- The rounds begin where the facts before any have settled, and leave the order as it was.
-- Assumes nothing.
use Rattle.std.proofs.Common.{arith}
use Rattle.buffer.proofs.Filled.{kept_behind, kept_wider}
use Rattle.buffer.proofs.Store.{holds_moves}
use Rattle.fact.specs.Certificate.{initial_store}
use Rattle.certificate.proofs.round.write_certificate.Goals as goal

pub run_rounds-requires-clause-stands : goal.run_rounds-requires-clause-stands
unfolding initial_store
run_rounds-requires-clause-stands g c = (holds_moves c.write_initial.ensures c.settle.ensures).stands

pub returns-clause-kept : goal.returns-clause-kept
returns-clause-kept g c =
    let x = c.args in
    let order = c.split_at_mut-ordered.ensures in
    let ready = c.requires in
    kept_wider (omega (arith, c.new-plan.ensures.registers, ready.fits))
    (kept_behind x.table.now.records x.scratch.now _ _ (omega (arith, ready.scratch_long)) order.front_len
    (rw order.back at c.run_rounds.ensures.kept))

-- The scratch is cleared where the rounds have staged.
-- Assumes nothing.
use Rattle.std.proofs.Common.{◌*◌}
use Rattle.std.proofs.Math.Nat.{le_refl}
use Rattle.buffer.proofs.Filled.{kept_cleared}
use Rattle.certificate.specs.Promise.{room}
use Rattle.certificate.proofs.certify_ordered.Goals as goal

pub returns-clause-scratch_after : goal.returns-clause-scratch_after
returns-clause-scratch_after c =
    let part = c.args.table.now.records * room in
    kept_cleared part part c.args.scratch.now _ _ c.write_certificate-rounds.ensures.kept (le_refl part)
    c.requires.scratch_long c.clear.ensures

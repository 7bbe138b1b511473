-- Zeros over the part in which the order and the staged values stood.
-- Assumes nothing.
use Rattle.std.proofs.Common.{◌*◌}
use Rattle.std.proofs.Math.Nat.{le_refl}
use Rattle.buffer.proofs.Filled.{kept_cleared}
use Rattle.machine.specs.Promise.{room}
use Rattle.machine.proofs.bench_ordered.Goals as goal

pub returns-clause-scratch_after : goal.returns-clause-scratch_after
returns-clause-scratch_after c =
    let part = c.args.table.now.records * room in
    kept_cleared part part c.args.scratch.now _ _ c.bench_list-answer.ensures.kept (le_refl part)
    c.requires.scratch_long c.clear.ensures

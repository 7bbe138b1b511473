-- A variable that a wire uses, from the bytes of its record.
-- Assumes nothing.
use Rattle.std.proofs.Common.{sym, ◌∙◌}
use Rattle.schedule.proofs.Uses.{use_decode, used_decode}
use Rattle.schedule.proofs.walk.used_at.Goals as goal

pub use_at-requires-clause-k_in_bounds : goal.use_at-requires-clause-k_in_bounds
use_at-requires-clause-k_in_bounds c =
    use_decode _ _ c.args.v c.requires.v_in_bounds c.args.k c.requires.k_in_bounds

pub returns : goal.returns
returns c =
    c.from.ensures
    ∙ c.use_at.ensures
    ∙ sym (used_decode c.args.table.bytes.now c.args.table.records c.args.v c.requires.v_in_bounds c.args.k)

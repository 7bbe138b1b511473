-- The variables that a record uses stand two bytes apart.
-- Assumes nothing.
use Rattle.std.proofs.Common.{◌*◌, ◌∙◌}
use Rattle.circuit.proofs.Decoding.{use_number}
use Rattle.circuit.proofs.table.use_at.Goals as goal

pub returns : goal.returns
returns c = c.u16_at.ensures ∙ use_number c.args.t.now (c.args.v * 16) c.args.k c.requires.k_in_bounds

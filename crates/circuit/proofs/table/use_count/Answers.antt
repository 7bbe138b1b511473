-- The kind's digit.
-- Assumes nothing.
use Rattle.std.proofs.Common.{◌*◌}
use Rattle.circuit.specs.Reading.{fields_at}
use Rattle.circuit.proofs.Decoding.{uses_digit}
use Rattle.circuit.proofs.table.use_count.Goals as goal

pub returns : goal.returns
returns c = uses_digit (fields_at c.args.t.now (c.args.v * 16)) c.requires.v_bound

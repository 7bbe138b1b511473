-- The kind byte is 4 or more exactly for a register.
-- Assumes nothing.
use Rattle.circuit.proofs.Decoding.{register_test}
use Rattle.circuit.proofs.table.is_register.Goals as goal

pub returns : goal.returns
returns c = register_test _

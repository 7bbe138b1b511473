-- The test is computed over the whole table.
-- Assumes nothing.
use Rattle.net.specs.Tests.{all_below}
use Rattle.circuit.specs.declared.width.TheConstants.{POWERS}
use Rattle.circuit.proofs.Powers.{powers_hold}
use Rattle.circuit.proofs.width.PowerTable.new.Goals as goal

pub invariant_of-result : goal.invariant_of-result
unfolding all_below
invariant_of-result c = record { powers = powers_hold POWERS tt }

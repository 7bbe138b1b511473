-- The circuit of a plan.
-- Assumes nothing.
use Rattle.circuit.specs.Circuit.{Circuit}
use Rattle.circuit.specs.Tables as tables
use Rattle.engine.specs.declared.plan.Plan.{Plan}

abbrev pub circuit_of : Plan → Circuit
circuit_of p = tables.circuit_of p.table

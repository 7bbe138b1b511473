-- The circuit of a table whose records passed the checks.
-- Assumes nothing.
use Rattle.circuit.specs.declared.table.Table.{Table}
use Rattle.circuit.specs.Circuit.{Circuit, circuit}

abbrev pub circuit_of : Table → Circuit
circuit_of t = circuit t.bytes.now t.records

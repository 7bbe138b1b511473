-- The circuit of a table: document 01's row of records, read. Record i, counted from 0, defines variable i.
-- Assumes nothing.
use Rattle.std.specs.Prelude.{ℕ, ◌*◌, List, length, slice_index_or}
use Rattle.net.specs.Net.{Graph, list_below}
use Rattle.net.specs.Loop.{Loop}
use Rattle.circuit.specs.declared.record.InputKind.TheVariants.{Fixed}
use Rattle.circuit.specs.declared.record.Record.{Record}
use Rattle.circuit.specs.declared.record.Record.TheVariants.{Input}
use Rattle.circuit.specs.Record.{role, uses}
use Rattle.circuit.specs.Reading.{fields_at, decode}

abbrev pub Circuit : Type 0
Circuit = List Record

-- the first n records of a table's bytes, read without a check
unfoldable pub circuit : List ℕ → ℕ → Circuit
unfolding list_below decode
circuit t n = list_below (λ i. decode (fields_at t (i * 16))) n

-- the record of a variable; a number past the table reads as an input that is fixed to 0
abbrev pub record_of : Circuit → ℕ → Record
record_of c v = slice_index_or c v (Input 1 (Fixed 0))

-- the inputs, wires and registers, and what each uses
abbrev pub graph : Circuit → Graph
graph c = record { size = length c; role = λ v. role (record_of c v); uses = λ v. uses (record_of c v) }

-- ground 11 does not hold: no row is a loop
abbrev pub NoLoop : Circuit → Type 0
NoLoop c = (row : List ℕ) → Loop (graph c) row → ⊥

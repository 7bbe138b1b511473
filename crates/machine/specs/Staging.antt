-- A tick's registers: whether any has an enable, and their next values, staged in the scratch, for contracts of what
-- works on them.
-- Assumes nothing.
use Rattle.std.specs.Prelude.{◌≡◌, Bool, false, List, [], ◌∷◌, ℕ, ◌+◌, ◌*◌, ◌/◌, ◌%◌, ◌<◌, get_or}
use Rattle.net.specs.Net.{register}
use Rattle.buffer.specs.Store.{Layout}
use Rattle.circuit.specs.Record.{role}
use Rattle.circuit.specs.Reading.{fields_at}
use Rattle.circuit.specs.declared.table.Table.{Table}
use Rattle.circuit.specs.Tables.{circuit_of}
use Rattle.circuit.specs.Circuit.{Circuit, record_of}
use Rattle.circuit.specs.Machine.{values}
use Rattle.engine.specs.Registers.{next_of}

-- the number in two halves of 16 bits from a place on, the low one first
abbrev pub number_at : List ℕ → ℕ → ℕ
number_at scratch at = get_or scratch at 0 + 65536 * get_or scratch (at + 1) 0

-- a number as its two halves
abbrev pub halves : Layout ℕ
halves = record { each = 2; image = λ x. x % 65536 ∷ x / 65536 ∷ []; at = number_at }

-- where no register is said to have an enable, every register of the table is of kind 4
abbrev pub PlainUnless : Bool → Table → Type 0
PlainUnless enables t =
    enables ≡ false → (v : ℕ) → v < t.records → role (record_of (circuit_of t) v) ≡ register
    → (fields_at t.bytes.now (v * 16)).kind ≡ 4

-- the next value of register j
abbrev pub staged : Circuit → (ℕ → ℕ) → ℕ → ℕ
staged c s j = next_of c (values c) s j

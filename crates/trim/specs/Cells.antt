-- How a record's fields stand in a table's bytes, fields with other variable numbers, and a survivor's fields.
-- Assumes nothing.
use Rattle.std.specs.Prelude.{List, ℕ, ◌<◌}
use Rattle.net.specs.Chosen.{place_of}
use Rattle.buffer.specs.Store.{Layout}
use Rattle.circuit.specs.declared.record.Fields.{Fields}
use Rattle.circuit.specs.Record.{renumber}
use Rattle.circuit.specs.Reading.{fields_at, encode, field_bytes}
use Rattle.circuit.specs.Circuit.{Circuit, record_of}
use Rattle.fact.specs.Fact.{fact_at}
use Rattle.trim.specs.Trimmed.{replaced}
use Rattle.trim.specs.Ready.{remains}

-- 16 bytes a record
abbrev pub field_cells : Layout Fields
field_cells = record { each = 16; image = field_bytes; at = fields_at }

-- A, B and C are below n
pub record Below (n : ℕ) (f : Fields) : Type 0 where
  pub a : f.a < n
  pub b : f.b < n
  pub c : f.c < n

-- the fields with A, B and C renumbered, whether the record uses them or not
abbrev pub renumber_fields : (ℕ → ℕ) → Fields → Fields
renumber_fields new f =
    record {
      kind = f.kind;
      width = f.width;
      code = f.code;
      byte3 = f.byte3;
      a = new f.a;
      b = new f.b;
      c = new f.c;
      bytes10 = f.bytes10;
      value = f.value;
    }

-- the fields of variable v's record in the trimmed table, where the scratch says which variables remain
abbrev pub survivor_fields : Circuit → List ℕ → List ℕ → ℕ → Fields
survivor_fields c certificate s v =
    encode (renumber (place_of (remains c s)) (record_of (replaced c (fact_at certificate)) v))

-- A record from its 16 bytes and the number of records: its fields, what they read as, and grounds 5 to 10 in order.
-- Assumes nothing.
use Rattle.std.specs.Prelude.{ℕ, ◌+◌, ◌^◌, Bool, true, false, not, ◌||◌, ltb, List, [], ◌∷◌, ◌++◌, map, ◌==◌, nat_eq, nat_le, nat_lt, slice_index, slice_index_or}
use Rattle.net.specs.Tests.{every}
use Rattle.circuit.specs.declared.record.Fields.{Fields}
use Rattle.circuit.specs.declared.record.Kind.{Kind}
use Rattle.circuit.specs.declared.record.Kind.TheVariants as kind
use Rattle.std.specs.Prelude.{Option}
use Rattle.std.specs.Prelude.{Some, None}
use Rattle.std.specs.Prelude.{Option}
use Rattle.std.specs.Prelude.{Some, None}
use Rattle.circuit.specs.declared.record.InputKind.{InputKind}
use Rattle.circuit.specs.declared.record.InputKind.TheVariants.{Fixed, Free, Secret}
use Rattle.circuit.specs.declared.record.Record.{Record}
use Rattle.circuit.specs.declared.record.Record.TheVariants.{Input, Constant, Operator, Multiplexer, Register, Enabled}
use Rattle.std.specs.Prelude.{Result}
use Rattle.std.specs.Prelude.{Ok, Err}
use Rattle.circuit.specs.declared.refusal.Ground.{Ground}
use Rattle.circuit.specs.declared.refusal.Ground.TheVariants.{UnknownKind, BadWidth, UnknownCode, UnusedNotZero, NoSuchVariable, ValueTooWide}
use Rattle.circuit.specs.Number.{u16_at, u32_at, u16_bytes, u32_bytes}
use Rattle.circuit.specs.Operator.{operator_code, operator_of}
use Rattle.circuit.specs.Record.{uses}

-- the fields of the 16 bytes from a place on
abbrev pub fields_at : List ℕ → ℕ → Fields
fields_at t at = record {
  kind = slice_index t at;
  width = slice_index t (at + 1);
  code = slice_index t (at + 2);
  byte3 = slice_index t (at + 3);
  a = u16_at t (at + 4);
  b = u16_at t (at + 6);
  c = u16_at t (at + 8);
  bytes10 = u16_at t (at + 10);
  value = u32_at t (at + 12);
}

-- the number of each kind, byte 0: document 01's, and request S-2's of a register with an enable
abbrev pub kind_number : Kind → ℕ
kind_number kind.Input = 0
kind_number kind.Constant = 1
kind_number kind.Operator = 2
kind_number kind.Multiplexer = 3
kind_number kind.Register = 4
kind_number kind.Enabled = 5

-- the kinds in the order of their numbers
abbrev pub kinds : List Kind
kinds = kind.Input ∷ kind.Constant ∷ kind.Operator ∷ kind.Multiplexer ∷ kind.Register ∷ kind.Enabled ∷ []

-- the kind of a byte, if it has one
abbrev pub read_kind : ℕ → Option Kind
read_kind byte = slice_index_or (map Some kinds) byte None

-- document 01's byte 2 of each kind of input
abbrev pub input_code : InputKind → ℕ
input_code (Fixed n) = 0
input_code Free = 1
input_code Secret = 2

-- the value of a fixed input, else 0
abbrev pub input_value : InputKind → ℕ
input_value (Fixed n) = n
input_value Free = 0
input_value Secret = 0

-- the kinds of input with the value n, in the order of their codes
abbrev pub input_kinds : ℕ → List InputKind
input_kinds n = Fixed n ∷ Free ∷ Secret ∷ []

-- the kind of input of a code, if it has one
abbrev pub read_input : ℕ → ℕ → Option InputKind
read_input code n = slice_index_or (map Some (input_kinds n)) code None

-- the kind of input of a code; ground 7 turns away every code past the last, which reads as secret here
abbrev pub input_kind_of : ℕ → ℕ → InputKind
input_kind_of code n = slice_index_or (input_kinds n) code Secret

-- what fields read as for kinds 0 to 4: an input, a constant, an operator, a multiplexer, a register
abbrev pub first_kinds : Fields → List Record
first_kinds f =
    Input f.width (input_kind_of f.code f.value)
    ∷ Constant f.width f.value
    ∷ Operator f.width (operator_of f.code) f.a f.b
    ∷ Multiplexer f.width f.a f.b f.c
    ∷ Register f.width f.a f.value
    ∷ []

-- what fields read as; kind 5 is a register with data A and enable B, and ground 5 turns away every kind above it, which
-- reads as one here
unfoldable pub decode : Fields → Record
decode f = slice_index_or (first_kinds f) f.kind (Enabled f.width f.a f.b f.value)

-- the fields with the bytes that must be 0
abbrev fields : ℕ → ℕ → ℕ → ℕ → ℕ → ℕ → ℕ → Fields
fields byte0 width code a b c value =
    record { kind = byte0; width = width; code = code; byte3 = 0; a = a; b = b; c = c; bytes10 = 0; value = value }

-- the numbers of each kind of record: kind, width, byte 2, A, B, C and value
abbrev pub encode : Record → Fields
encode (Input w k) = fields 0 w (input_code k) 0 0 0 (input_value k)
encode (Constant w n) = fields 1 w 0 0 0 0 n
encode (Operator w op a b) = fields 2 w (operator_code op) a b 0 0
encode (Multiplexer w a b c) = fields 3 w 0 a b c 0
encode (Register w a n) = fields 4 w 0 a 0 0 n
encode (Enabled w a b n) = fields 5 w 0 a b 0 n

-- the 16 bytes of fields
abbrev pub field_bytes : Fields → List ℕ
field_bytes f =
    (f.kind ∷ f.width ∷ f.code ∷ f.byte3 ∷ [])
    ++ u16_bytes f.a
    ++ u16_bytes f.b
    ++ u16_bytes f.c
    ++ u16_bytes f.bytes10
    ++ u32_bytes f.value

-- the 16 bytes of a record
abbrev pub record_bytes : Record → List ℕ
record_bytes r = field_bytes (encode r)

-- how many values byte 2 has for a kind: three for an input, nine for an operator, otherwise 0 alone
abbrev pub codes : ℕ → ℕ
codes byte = slice_index_or (3 ∷ 1 ∷ 9 ∷ []) byte 1

-- the variable numbers and the value that a record does not use
abbrev pub unused : Record → Fields → List ℕ
unused (Input w (Fixed n)) f = f.a ∷ f.b ∷ f.c ∷ []
unused (Input w Free) f = f.a ∷ f.b ∷ f.c ∷ f.value ∷ []
unused (Input w Secret) f = f.a ∷ f.b ∷ f.c ∷ f.value ∷ []
unused (Constant w n) f = f.a ∷ f.b ∷ f.c ∷ []
unused (Operator w op a b) f = f.c ∷ f.value ∷ []
unused (Multiplexer w a b c) f = f.value ∷ []
unused (Register w a n) f = f.b ∷ f.c ∷ []
unused (Enabled w a b n) f = f.c ∷ []

-- refused on a ground where the test holds; else what is tried next
abbrev pub refuse_record : Ground → Bool → Result Record Ground → Result Record Ground
refuse_record reason true next = Err reason
refuse_record reason false next = next

-- Grounds 5 to 10, in order, of a record among n records. Where ground 10 is tried, a value that is not used is 0.
unfoldable pub read_record : Fields → ℕ → Result Record Ground
unfolding decode every
read_record f n =
    refuse_record UnknownKind (nat_lt 5 f.kind)
    (refuse_record BadWidth (f.width == 0 || nat_lt 32 f.width)
    (refuse_record UnknownCode (nat_le (codes f.kind) f.code)
    (refuse_record UnusedNotZero (not (every (λ x. nat_eq x 0) (f.byte3 ∷ f.bytes10 ∷ unused (decode f) f)))
    (refuse_record NoSuchVariable (not (every (λ v. ltb v n) (uses (decode f))))
    (refuse_record ValueTooWide (nat_le (2 ^ f.width) f.value)
    (Ok (decode f)))))))

-- The six kinds of record, document 01's five and request S-2's register with an enable: width, uses, which are inputs,
-- wires and registers, and which inputs are fixed, free or secret.
-- Assumes nothing.
use Rattle.std.specs.Prelude.{ℕ, suc, Bool, true, false, List, [], ◌∷◌, length}
use Rattle.std.proofs.Math.Option.{Option, none, some}
use Rattle.net.specs.Net.{Role, input, wire, register}
use Rattle.circuit.specs.declared.record.InputKind.{InputKind}
use Rattle.circuit.specs.declared.record.Record.{Record}
use Rattle.circuit.specs.declared.record.Record.TheVariants.{Input, Constant, Operator, Multiplexer, Register, Enabled}

abbrev pub width : Record → ℕ
width (Input w k) = w
width (Constant w n) = w
width (Operator w op a b) = w
width (Multiplexer w a b c) = w
width (Register w a n) = w
width (Enabled w a b n) = w

-- the variables that a record uses
abbrev pub uses : Record → List ℕ
uses (Input w k) = []
uses (Constant w n) = []
uses (Operator w op a b) = a ∷ b ∷ []
uses (Multiplexer w a b c) = a ∷ b ∷ c ∷ []
uses (Register w a n) = a ∷ []
uses (Enabled w a b n) = a ∷ b ∷ []

-- document 01's wires are constants, operators and multiplexers
abbrev pub role : Record → Role
role (Input w k) = input
role (Constant w n) = wire
role (Operator w op a b) = wire
role (Multiplexer w a b c) = wire
role (Register w a n) = register
role (Enabled w a b n) = register

-- what kind of input a record is, if it is one
abbrev pub input_of : Record → Option InputKind
input_of (Input w k) = some k
input_of (Constant w n) = none
input_of (Operator w op a b) = none
input_of (Multiplexer w a b c) = none
input_of (Register w a n) = none
input_of (Enabled w a b n) = none

-- 0 for a record that is no wire, else one more than the number of variables that it uses
abbrev pub wire_uses : Record → ℕ
wire_uses r = elim (role r) [ input ↦ 0 | wire ↦ suc (length (uses r)) | register ↦ 0 ]

-- whether a record is a register
abbrev pub is_register : Record → Bool
is_register r = elim (role r) [ input ↦ false | wire ↦ false | register ↦ true ]

-- a record with the variables that it uses renumbered
abbrev pub renumber : (ℕ → ℕ) → Record → Record
renumber new (Input w k) = Input w k
renumber new (Constant w n) = Constant w n
renumber new (Operator w op a b) = Operator w op (new a) (new b)
renumber new (Multiplexer w a b c) = Multiplexer w (new a) (new b) (new c)
renumber new (Register w a n) = Register w (new a) n
renumber new (Enabled w a b n) = Enabled w (new a) (new b) n

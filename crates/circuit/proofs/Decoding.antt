-- What a record's fields decode to, by the kind byte.
-- Assumes nothing.
use Rattle.std.proofs.Common.{◌≡◌, ℕ, zero, suc, ◌+◌, ◌*◌, ◌/◌, ◌%◌, ◌^◌, ◌<◌, ◌≤◌, eqb, leb, List, [], ◌∷◌, length, get_or, refl, ap, ◌∙◌, not-suc-le-zero, arith, ne_eqb, le-leb, leb-true}
use lib.ListN.{get_or-eq_default}
use Rattle.net.specs.Net.{Role, input, wire, register}
use Rattle.net.proofs.Cases.{by_same}
use Rattle.circuit.specs.declared.record.Fields.{Fields}
use Rattle.circuit.specs.declared.record.Record.TheVariants.{Input, Constant, Operator, Multiplexer, Register, Enabled}
use Rattle.circuit.specs.Number.{u16_at}
use Rattle.circuit.specs.Operator.{operator_of}
use Rattle.circuit.specs.Record.{width, uses, role, input_of, wire_uses, is_register}
use Rattle.circuit.specs.Reading.{fields_at, input_kind_of, first_kinds, decode}
use Rattle.circuit.specs.Machine.{initial}
use Rattle.circuit.specs.Stimuli.{is_input}
use Rattle.circuit.proofs.Bytes.{past}

module _ (f : Fields) where
  pub decode_input : f.kind ≡ 0 → decode f ≡ Input f.width (input_kind_of f.code f.value)
  unfolding decode
  decode_input e = rw e

  pub decode_constant : f.kind ≡ 1 → decode f ≡ Constant f.width f.value
  unfolding decode
  decode_constant e = rw e

  pub decode_operator : f.kind ≡ 2 → decode f ≡ Operator f.width (operator_of f.code) f.a f.b
  unfolding decode
  decode_operator e = rw e

  pub decode_multiplexer : f.kind ≡ 3 → decode f ≡ Multiplexer f.width f.a f.b f.c
  unfolding decode
  decode_multiplexer e = rw e

  pub decode_register : f.kind ≡ 4 → decode f ≡ Register f.width f.a f.value
  unfolding decode
  decode_register e = rw e

  pub decode_enabled : 5 ≤ f.kind → decode f ≡ Enabled f.width f.a f.b f.value
  unfolding decode
  decode_enabled h = get_or-eq_default (first_kinds f) (Enabled f.width f.a f.b f.value) h

pub by_kind : {P : Type 0} (k : ℕ) → (k ≡ 0 → P) → (k ≡ 1 → P) → (k ≡ 2 → P) → (k ≡ 3 → P) → (k ≡ 4 → P)
    → (5 ≤ k → P) → P
by_kind zero a b c d e f = a refl
by_kind (suc zero) a b c d e f = b refl
by_kind (suc (suc zero)) a b c d e f = c refl
by_kind (suc (suc (suc zero))) a b c d e f = d refl
by_kind (suc (suc (suc (suc zero)))) a b c d e f = e refl
by_kind (suc (suc (suc (suc (suc k))))) a b c d e f = f (omega arith)

pub wire_uses_most : (f : Fields) → wire_uses (decode f) ≤ 4
wire_uses_most f =
    by_kind f.kind
    (λ e. rw (decode_input f e) (omega arith))
    (λ e. rw (decode_constant f e) (omega arith))
    (λ e. rw (decode_operator f e) (omega arith))
    (λ e. rw (decode_multiplexer f e) (omega arith))
    (λ e. rw (decode_register f e) (omega arith))
    (λ h. rw (decode_enabled f h) (omega arith))

pub uses_most : (f : Fields) → length (uses (decode f)) ≤ 3
uses_most f =
    by_kind f.kind
    (λ e. rw (decode_input f e) (omega arith))
    (λ e. rw (decode_constant f e) (omega arith))
    (λ e. rw (decode_operator f e) (omega arith))
    (λ e. rw (decode_multiplexer f e) (omega arith))
    (λ e. rw (decode_register f e) (omega arith))
    (λ h. rw (decode_enabled f h) (omega arith))

-- the digits of base 16 from which the code takes them
pub uses_digit : (f : Fields) → f.kind ≤ 5 → 2175488 / 2 ^ (f.kind * 4) % 16 ≡ length (uses (decode f))
uses_digit f h =
    by_kind f.kind
    (λ e. rw (decode_input f e, e))
    (λ e. rw (decode_constant f e, e))
    (λ e. rw (decode_operator f e, e))
    (λ e. rw (decode_multiplexer f e, e))
    (λ e. rw (decode_register f e, e))
    (λ g. let e : f.kind ≡ 5 = omega arith in rw (decode_enabled f g, e))

pub wire_uses_digit : (f : Fields) → f.kind ≤ 5 → 17168 / 2 ^ (f.kind * 4) % 16 ≡ wire_uses (decode f)
wire_uses_digit f h =
    by_kind f.kind
    (λ e. rw (decode_input f e, e))
    (λ e. rw (decode_constant f e, e))
    (λ e. rw (decode_operator f e, e))
    (λ e. rw (decode_multiplexer f e, e))
    (λ e. rw (decode_register f e, e))
    (λ g. let e : f.kind ≡ 5 = omega arith in rw (decode_enabled f g, e))

role_differs : (x y : Role) → x ≡ y → (x ≡ y → ◌≡◌ {A = ℕ} 0 1) → ⊥
role_differs x y e z = absurd (let q : ◌≡◌ {A = ℕ} 0 1 = z e in omega arith)

-- a wire that is neither a constant nor an operator is a multiplexer
pub wire_multiplexer : (f : Fields) → role (decode f) ≡ wire → (f.kind ≡ 1 → ⊥) → (f.kind ≡ 2 → ⊥)
    → decode f ≡ Multiplexer f.width f.a f.b f.c
wire_multiplexer f e one two =
    by_kind f.kind
    (λ k. absurd (role_differs input wire (rw (decode_input f k) at e) (λ z. cc)))
    (λ k. absurd (one k))
    (λ k. absurd (two k))
    (λ k. decode_multiplexer f k)
    (λ k. absurd (role_differs register wire (rw (decode_register f k) at e) (λ z. cc)))
    (λ k. absurd (role_differs register wire (rw (decode_enabled f k) at e) (λ z. cc)))

-- the variables that a record uses stand two bytes apart
pub use_number : (t : List ℕ) (at k : ℕ) → k < length (uses (decode (fields_at t at)))
    → u16_at t (at + 4 + k * 2) ≡ get_or (uses (decode (fields_at t at))) k 0
use_number t at k h =
    by_kind f.kind
    (λ e. absurd (not-suc-le-zero (rw (decode_input f e) at h)))
    (λ e. absurd (not-suc-le-zero (rw (decode_constant f e) at h)))
    (λ e. rw (decode_operator f e) (two k (rw (decode_operator f e) at h)))
    (λ e. rw (decode_multiplexer f e) (three k (rw (decode_multiplexer f e) at h)))
    (λ e. rw (decode_register f e) (one k (rw (decode_register f e) at h)))
    (λ e. rw (decode_enabled f e) (two k (rw (decode_enabled f e) at h)))
  where
    f : Fields
    f = fields_at t at

    one : (k : ℕ) → k < 1 → u16_at t (at + 4 + k * 2) ≡ get_or (f.a ∷ []) k 0
    one zero h = ap (u16_at t) (omega arith)
    one (suc k) h = absurd (omega arith)

    two : (k : ℕ) → k < 2 → u16_at t (at + 4 + k * 2) ≡ get_or (f.a ∷ f.b ∷ []) k 0
    two zero h = ap (u16_at t) (omega arith)
    two (suc zero) h = ap (u16_at t) (omega arith)
    two (suc (suc k)) h = absurd (omega arith)

    three : (k : ℕ) → k < 3 → u16_at t (at + 4 + k * 2) ≡ get_or (f.a ∷ f.b ∷ f.c ∷ []) k 0
    three zero h = ap (u16_at t) (omega arith)
    three (suc zero) h = ap (u16_at t) (omega arith)
    three (suc (suc zero)) h = ap (u16_at t) (omega arith)
    three (suc (suc (suc k))) h = absurd (omega arith)

pub register_test : (f : Fields) → leb 4 f.kind ≡ is_register (decode f)
register_test f =
    by_kind f.kind
    (λ e. rw (decode_input f e, e))
    (λ e. rw (decode_constant f e, e))
    (λ e. rw (decode_operator f e, e))
    (λ e. rw (decode_multiplexer f e, e))
    (λ e. rw (decode_register f e, e))
    (λ h. rw (decode_enabled f h) (le-leb 4 f.kind (omega arith)))

pub input_test : (f : Fields) → eqb f.kind 0 ≡ is_input (input_of (decode f))
input_test f =
    by_kind f.kind
    (λ e. rw (decode_input f e, e))
    (λ e. rw (decode_constant f e, e))
    (λ e. rw (decode_operator f e, e))
    (λ e. rw (decode_multiplexer f e, e))
    (λ e. rw (decode_register f e, e))
    (λ h. rw (decode_enabled f h) (ne_eqb f.kind 0 (λ e. omega arith)))

register_kind : (f : Fields) → role (decode f) ≡ register → 4 ≤ f.kind
register_kind f e = leb-true 4 f.kind (register_test f ∙ rw (e, is_register))

-- a register that is not of kind 4 has an enable
pub register_enabled : (f : Fields) → role (decode f) ≡ register → (f.kind ≡ 4 → ⊥)
    → decode f ≡ Enabled f.width f.a f.b f.value
register_enabled f e four = decode_enabled f (past f.kind 4 (register_kind f e) four)

-- a register's power-on value is its record's
pub register_initial : (f : Fields) → role (decode f) ≡ register → initial (decode f) ≡ f.value
register_initial f e =
    by_same f.kind 4 (λ k. ap initial (decode_register f k)) (λ k. ap initial (register_enabled f e k))

pub decode_width : (f : Fields) → width (decode f) ≡ f.width
decode_width f =
    by_kind f.kind
    (λ e. ap width (decode_input f e))
    (λ e. ap width (decode_constant f e))
    (λ e. ap width (decode_operator f e))
    (λ e. ap width (decode_multiplexer f e))
    (λ e. ap width (decode_register f e))
    (λ h. ap width (decode_enabled f h))

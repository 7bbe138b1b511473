-- What is read from bytes goes by document 01's numbers: a byte reads as a case exactly where it is that case's number;
-- a record's fields, and a stimulus's bytes, read as one exactly where they are its numbers and no ground holds.
-- Assumes nothing.
use Rattle.std.proofs.Common.{◌≡◌, ℕ, zero, suc, ◌+◌, ◌<◌, Bool, true, false, not, ◌&&◌, ◌||◌, eqb, ltb, List, [], ◌∷◌, get_or, sym, refl, ap, ◌∙◌, arith, ltb-false, eqb-true}
use borrow.Author.Tests.{not-false}
use Rattle.net.specs.declared.Stimulus.{Stimulus}
use Rattle.net.specs.declared.Stimulus.TheVariants.{Poke, Tick}
use Rattle.net.specs.Tests.{every}
use Rattle.net.specs.Net.{list_below}
use Rattle.circuit.specs.declared.operator.Operator.TheVariants.{ShiftRight}
use Rattle.std.specs.Prelude.{Some}
use Rattle.circuit.specs.declared.record.Fields.{Fields}
use Rattle.circuit.specs.declared.record.Kind.{Kind}
use Rattle.circuit.specs.declared.record.Kind.TheVariants as kind
use Rattle.std.specs.Prelude.{Some}
use Rattle.circuit.specs.declared.record.InputKind.{InputKind}
use Rattle.circuit.specs.declared.record.InputKind.TheVariants.{Fixed, Free, Secret}
use Rattle.std.specs.Prelude.{Some}
use Rattle.circuit.specs.declared.record.Record.{Record}
use Rattle.circuit.specs.declared.record.Record.TheVariants.{Input}
use Rattle.std.specs.Prelude.{Ok}
use Rattle.std.specs.Prelude.{Ok}
use Rattle.circuit.specs.Number.{u16_at, u32_at}
use Rattle.circuit.specs.Operator.{operator_code, operators, operator_of, read_operator}
use Rattle.circuit.specs.Reading.{kind_number, read_kind, input_code, input_kind_of, read_input, decode, encode, unused, read_record}
use Rattle.circuit.specs.Stimuli.{stimulus_kind, stimulus_variable, stimulus_value, stimulus_of, bad_numbers, read_from, read_stimulus}
use Rattle.circuit.proofs.Lookups.{in_order, kind_is, operator_is, input_is}
use Rattle.circuit.proofs.Operators.{code_reads}
use Rattle.circuit.proofs.Decoding.{by_kind, decode_input, decode_constant, decode_operator, decode_multiplexer, decode_register, decode_enabled}
use Rattle.circuit.proofs.Stimuli.{both_true}
use Rattle.circuit.proofs.Records.{Valid, decode_encode, both_false, read_valid, valid_read}

-- ---- one byte

-- a byte reads as a case exactly where it is the case's number
abbrev pub ReadBy : {A B : Type 0} → (ℕ → B) → (A → B) → (A → ℕ) → Type 0
ReadBy {A} read is number =
    (byte : ℕ) (x : A) → (read byte ≡ is x → byte ≡ number x) × (byte ≡ number x → read byte ≡ is x)

number_kind : (k : Kind) → read_kind (kind_number k) ≡ Some k
number_kind kind.Input = refl
number_kind kind.Constant = refl
number_kind kind.Operator = refl
number_kind kind.Multiplexer = refl
number_kind kind.Register = refl
number_kind kind.Enabled = refl

pub kind_read : ReadBy read_kind Some kind_number
kind_read byte k = (λ e. sym (kind_is byte k e).1, λ e. rw e (number_kind k))

operator_at : (code : ℕ) → code < 9 → operator_code (operator_of code) ≡ code
unfolding list_below
operator_at code h = in_order operator_code operators code ShiftRight refl h

pub operator_read : ReadBy read_operator Some operator_code
operator_read code op = (
  λ e. let (h, is) = operator_is code op e in sym (operator_at code h) ∙ ap operator_code is,
  λ e. rw e (code_reads op),
)

-- what a kind of input says of the value: a fixed one carries it
abbrev pub Carries : InputKind → ℕ → Type 0
Carries (Fixed m) n = m ≡ n
Carries Free n = Unit {0}
Carries Secret n = Unit {0}

input_at : (code n : ℕ) → code < 3 → (input_code (input_kind_of code n) ≡ code) × Carries (input_kind_of code n) n
input_at zero n h = (refl, refl)
input_at (suc zero) n h = (refl, tt)
input_at (suc (suc zero)) n h = (refl, tt)
input_at (suc (suc (suc code))) n h = absurd (omega arith)

code_input : (k : InputKind) (n : ℕ) → Carries k n → read_input (input_code k) n ≡ Some k
code_input (Fixed m) n e = rw e
code_input Free n e = refl
code_input Secret n e = refl

-- byte 2 and the value read as a kind of input exactly where the byte is its code, and a fixed one carries the value
pub input_read : (code n : ℕ) (k : InputKind)
    → (read_input code n ≡ Some k → (code ≡ input_code k) × Carries k n)
    × ((code ≡ input_code k) × Carries k n → read_input code n ≡ Some k)
input_read code n k = (
  λ e.
      let (h, is) = input_is code n k e in
      let (number, carries) = input_at code n h in
      (rw is at (sym number), rw is at carries),
  λ e. rw e.0 (code_input k n e.1),
)

-- ---- a record

-- the fields are these, with the bytes that must be 0
same_fields : {f : Fields} {byte0 code a b c value : ℕ} → f.kind ≡ byte0 → f.code ≡ code → f.a ≡ a → f.b ≡ b
    → f.c ≡ c → f.value ≡ value → f.byte3 ≡ 0 → f.bytes10 ≡ 0
    → f ≡ record {
      kind = byte0;
      width = f.width;
      code = code;
      byte3 = 0;
      a = a;
      b = b;
      c = c;
      bytes10 = 0;
      value = value;
    }
same_fields {f} k d ea eb ec v z z' =
    λ i. record {
      kind = k i;
      width = f.width;
      code = d i;
      byte3 = z i;
      a = ea i;
      b = eb i;
      c = ec i;
      bytes10 = z' i;
      value = v i;
    }

all_zero : (l : List ℕ) → every (λ y. eqb y 0) l ≡ true → (i : ℕ) → get_or l i 0 ≡ 0
unfolding every
all_zero [] e i = refl
all_zero (x ∷ xs) e zero = eqb-true x 0 (both_true (eqb x 0) (every (λ y. eqb y 0) xs) e).0
all_zero (x ∷ xs) e (suc i) = all_zero xs (both_true (eqb x 0) (every (λ y. eqb y 0) xs) e).1 i

-- a record's fields, of which no ground from 5 to 10 holds, are the numbers of what they decode to
module _ (f : Fields) (n : ℕ) (v : Valid f n) where
  zeros : (r : Record) → decode f ≡ r → (i : ℕ) → get_or (f.byte3 ∷ f.bytes10 ∷ unused r f) i 0 ≡ 0
  zeros r e = all_zero _ (rw e at v.zeros)

  input_encoded : (code : ℕ) → f.kind ≡ 0 → f.code ≡ code → code < 3 → f ≡ encode (decode f)
  input_encoded zero k d h =
      let e : decode f ≡ Input f.width (Fixed f.value) = rw (decode_input f k, d) in
      let z = zeros _ e in
      rw e (same_fields k d (z 2) (z 3) (z 4) refl (z 0) (z 1))
  input_encoded (suc zero) k d h =
      let e : decode f ≡ Input f.width Free = rw (decode_input f k, d) in
      let z = zeros _ e in
      rw e (same_fields k d (z 2) (z 3) (z 4) (z 5) (z 0) (z 1))
  input_encoded (suc (suc zero)) k d h =
      let e : decode f ≡ Input f.width Secret = rw (decode_input f k, d) in
      let z = zeros _ e in
      rw e (same_fields k d (z 2) (z 3) (z 4) (z 5) (z 0) (z 1))
  input_encoded (suc (suc (suc code))) k d h = absurd (omega arith)

  pub fields_encoded : f ≡ encode (decode f)
  fields_encoded =
      by_kind f.kind
      (λ k. input_encoded f.code k refl (rw k at v.code))
      (λ k.
      let z = zeros _ (decode_constant f k) in
      let few : f.code < 1 = rw k at v.code in
      rw (decode_constant f k) (same_fields k (omega arith) (z 2) (z 3) (z 4) refl (z 0) (z 1)))
      (λ k.
      let z = zeros _ (decode_operator f k) in
      let code = operator_at f.code (rw k at v.code) in
      rw (decode_operator f k) (same_fields k (sym code) refl refl (z 2) (z 3) (z 0) (z 1)))
      (λ k.
      let z = zeros _ (decode_multiplexer f k) in
      let few : f.code < 1 = rw k at v.code in
      rw (decode_multiplexer f k) (same_fields k (omega arith) refl refl refl (z 2) (z 0) (z 1)))
      (λ k.
      let z = zeros _ (decode_register f k) in
      let few : f.code < 1 = rw k at v.code in
      rw (decode_register f k) (same_fields k (omega arith) refl (z 2) (z 3) refl (z 0) (z 1)))
      (λ h.
      let k : f.kind ≡ 5 = omega (arith, v.kind) in
      let z = zeros _ (decode_enabled f h) in
      let few : f.code < 1 = rw k at v.code in
      rw (decode_enabled f h) (same_fields k (omega arith) refl refl (z 2) refl (z 0) (z 1)))

-- fields read as a record exactly where they are its numbers and no ground from 5 to 10 holds of them
pub record_read : (f : Fields) (n : ℕ) (r : Record)
    → (read_record f n ≡ Ok r → (f ≡ encode r) × Valid f n)
    × ((f ≡ encode r) × Valid f n → read_record f n ≡ Ok r)
record_read f n r = (
  λ e. let (v, is) = read_valid f n r e in (rw is (fields_encoded f n v), v),
  λ e.
      let is : decode f ≡ r = ap decode e.0 ∙ decode_encode r in
      rw is at (valid_read f n e.1),
)

-- ---- a stimulus

-- the bytes from a place on are a stimulus's numbers, with the byte that must be 0
pub record StimulusNumbers (s : List ℕ) (at : ℕ) (x : Stimulus) : Type 0 where
  pub kind : get_or s at 0 ≡ stimulus_kind x
  pub byte1 : get_or s (at + 1) 0 ≡ 0
  pub variable : u16_at s (at + 2) ≡ stimulus_variable x
  pub value : u32_at s (at + 4) ≡ stimulus_value x

good_read : (bad : Bool) (x y : Stimulus) → read_from bad y ≡ Ok x → (bad ≡ false) × (x ≡ y)
good_read true x y e = absurd (let z : ◌≡◌ {A = ℕ} 0 1 = cc in omega arith)
good_read false x y e = (refl, cc)

module _ (byte1 v y : ℕ) (x : Stimulus) where
  -- a stimulus of these numbers is read, of which ground 14 does not hold
  abbrev ReadOf : ℕ → Type 0
  ReadOf kind =
      read_from (bad_numbers kind byte1 v y) (stimulus_of kind v y) ≡ Ok x

  abbrev NumbersOf : ℕ → Type 0
  NumbersOf kind = (kind ≡ stimulus_kind x) × (byte1 ≡ 0) × (v ≡ stimulus_variable x) × (y ≡ stimulus_value x)

  told : (kind : ℕ) → ReadOf kind → NumbersOf kind
  told zero e =
      let (good, is) = good_read _ x (Poke v y) e in
      let zero1 = (both_false (not (eqb byte1 0)) false good).0 in
      rw is (refl, eqb-true byte1 0 (not-false _ zero1), refl, refl)
  told (suc zero) e =
      let (good, is) = good_read _ x Tick e in
      let (zero1, rest) = both_false (not (eqb byte1 0)) (not (eqb v 0 && eqb y 0)) good in
      let (zeroV, zeroY) = both_true (eqb v 0) (eqb y 0) (not-false _ rest) in
      rw is (refl, eqb-true byte1 0 (not-false _ zero1), eqb-true v 0 zeroV, eqb-true y 0 zeroY)
  told (suc (suc kind)) e =
      let good = (good_read _ x (stimulus_of (suc (suc kind)) v y) e).0 in
      let first = (both_false (ltb 1 (suc (suc kind)) || not (eqb byte1 0)) _ good).0 in
      let few = (both_false (ltb 1 (suc (suc kind))) (not (eqb byte1 0)) first).0 in
      absurd (omega (arith, ltb-false 1 (suc (suc kind)) few))

numbers_read : (kind byte1 v y : ℕ) (x : Stimulus) → NumbersOf byte1 v y x kind → ReadOf byte1 v y x kind
numbers_read kind byte1 v y (Poke u z) (e, e1, ev, ey) = rw (e, e1, ev, ey)
numbers_read kind byte1 v y Tick (e, e1, ev, ey) = rw (e, e1, ev, ey)

-- 8 bytes read as a stimulus exactly where they are its numbers
pub stimulus_read : (s : List ℕ) (at : ℕ) (x : Stimulus)
    → (read_stimulus s at ≡ Ok x → StimulusNumbers s at x)
    × (StimulusNumbers s at x → read_stimulus s at ≡ Ok x)
stimulus_read s at x = (
  λ e.
      let (kind, byte1, variable, value) =
      told (get_or s (at + 1) 0) (u16_at s (at + 2)) (u32_at s (at + 4)) x (get_or s at 0) e in
      record { kind = kind; byte1 = byte1; variable = variable; value = value },
  λ p.
      numbers_read (get_or s at 0) (get_or s (at + 1) 0) (u16_at s (at + 2)) (u32_at s (at + 4)) x
      (p.kind, p.byte1, p.variable, p.value),
)

-- Record v of a table that meets none of grounds 5 to 10, by what it reads as, and by its fields: its width is at most
-- 32, and its operands are variables of the table.
-- Assumes nothing.
use Rattle.std.proofs.Common.{◌≡◌, ℕ, ◌*◌, ◌<◌, ◌≤◌, T, List, sym, ap, ◌∙◌, subst}
use Rattle.net.specs.Net.{wire, register}
use Rattle.net.specs.Tests.{member}
use Rattle.net.proofs.Bools.{member_1, member_2, member_3}
use Rattle.net.proofs.Cases.{by_same}
use Rattle.circuit.specs.declared.record.Fields.{Fields}
use Rattle.circuit.specs.declared.record.Record.{Record}
use Rattle.circuit.specs.declared.record.Record.TheVariants.{Constant, Operator, Multiplexer, Register, Enabled}
use Rattle.circuit.specs.Refusal.{passed}
use Rattle.circuit.specs.Operator.{operator_of}
use Rattle.circuit.specs.Record.{width, uses, role}
use Rattle.circuit.specs.Reading.{fields_at, decode}
use Rattle.circuit.specs.Circuit.{circuit, record_of}
use Rattle.circuit.specs.Machine.{initial}
use Rattle.circuit.specs.Checks.{check_records}
use Rattle.circuit.proofs.Decoding.{decode_width, decode_constant, decode_operator, decode_register}
use Rattle.circuit.proofs.Decoding.{wire_multiplexer, register_enabled, register_initial}
use Rattle.circuit.proofs.Tables.{records_valid, circuit_record, record_uses}

module _ (t : List ℕ) (n v : ℕ) (h : v < n) (r : Record) (e : r ≡ decode (fields_at t (v * 16))) where
  pub record_here : (x : Record) → r ≡ x → record_of (circuit t n) v ≡ x
  record_here x q = circuit_record t n v h ∙ sym e ∙ q

  module _ (ok : check_records t n ≡ passed) where
    pub width_here : (x : Record) → r ≡ x → width x ≤ 32
    width_here x q =
        subst (λ (y : Record). width y ≤ 32) (sym e ∙ q)
        (rw (decode_width (fields_at t (v * 16))) (records_valid t n ok v h).width_most)

-- ---- by the fields

module _ (t : List ℕ) (n v : ℕ) where
  abbrev here : Record
  here = record_of (circuit t n) v

  abbrev f : Fields
  f = fields_at t (v * 16)

  pub record OperatorHere : Type 0 where
    pub is : here ≡ Operator f.width (operator_of f.code) f.a f.b
    pub width_most : f.width ≤ 32
    pub a_below : f.a < n
    pub b_below : f.b < n

  pub record MultiplexerHere : Type 0 where
    pub is : here ≡ Multiplexer f.width f.a f.b f.c
    pub width_most : f.width ≤ 32
    pub a_below : f.a < n
    pub b_below : f.b < n
    pub c_below : f.c < n

  -- a register: of kind 4, or with an enable
  pub record RegisterHere : Type 0 where
    pub plain : f.kind ≡ 4 → here ≡ Register f.width f.a f.value
    pub enabled : (f.kind ≡ 4 → ⊥) → here ≡ Enabled f.width f.a f.b f.value
    pub width_most : f.width ≤ 32
    pub a_below : f.a < n
    pub b_below : (f.kind ≡ 4 → ⊥) → f.b < n

  module _ (h : v < n) where
    pub constant_here : f.kind ≡ 1 → here ≡ Constant f.width f.value
    constant_here e = circuit_record t n v h ∙ decode_constant f e

    pub initial_here : role here ≡ register → initial here ≡ f.value
    initial_here e =
        ap initial (circuit_record t n v h) ∙ register_initial f (rw (circuit_record t n v h) at e)

    module _ (ok : check_records t n ≡ passed) where
      used : (x : Record) → here ≡ x → (u : ℕ) → T (member u (uses x)) → u < n
      used x q u m =
          record_uses t n ok v h u (subst (λ (y : Record). T (member u (uses y))) (sym q ∙ circuit_record t n v h) m)

      pub operator_here : f.kind ≡ 2 → OperatorHere
      operator_here e =
          let q = circuit_record t n v h ∙ decode_operator f e in
          record {
            is = q;
            width_most = (records_valid t n ok v h).width_most;
            a_below = used _ q f.a (member_1 _ _);
            b_below = used _ q f.b (member_2 _ _ _);
          }

      -- a wire that is neither a constant nor an operator
      pub multiplexer_here : role here ≡ wire → (f.kind ≡ 1 → ⊥) → (f.kind ≡ 2 → ⊥) → MultiplexerHere
      multiplexer_here e one two =
          let q = circuit_record t n v h ∙ wire_multiplexer f (rw (circuit_record t n v h) at e) one two in
          record {
            is = q;
            width_most = (records_valid t n ok v h).width_most;
            a_below = used _ q f.a (member_1 _ _);
            b_below = used _ q f.b (member_2 _ _ _);
            c_below = used _ q f.c (member_3 _ _ _ _);
          }

      pub register_here : role here ≡ register → RegisterHere
      register_here e =
          let q = circuit_record t n v h in
          let plain : f.kind ≡ 4 → here ≡ Register f.width f.a f.value = λ k. q ∙ decode_register f k in
          let enabled : (f.kind ≡ 4 → ⊥) → here ≡ Enabled f.width f.a f.b f.value =
          λ k. q ∙ register_enabled f (rw q at e) k in
          record {
            plain = plain;
            enabled = enabled;
            width_most = (records_valid t n ok v h).width_most;
            a_below =
                by_same f.kind 4
                (λ k. used _ (plain k) f.a (member_1 _ _))
                (λ k. used _ (enabled k) f.a (member_1 _ _));
            b_below = λ k. used _ (enabled k) f.b (member_2 _ _ _);
          }

-- A survivor's record by the fields of its record in the table: the same with other variable numbers, or a constant.
-- Assumes nothing.
use mathlib.Core.Path.{◌≡◌, refl, sym, ap, ◌∙◌}
use mathlib.Core.Bool.{Bool, true, false, not, ◌&&◌}
use mathlib.Core.List.{List}
use Prim.Native.Nat.{ℕ, ◌+◌, ◌*◌, ◌<◌}
use native.Mathlib.Omega.{arith}
use borrow.Author.Tests.{eqb-true, not-true, eq-eqb, ne_eqb}
use lib.Dec.{eqb}
use lib.ListN.{get_or}
use Rattle.net.specs.Chosen.{place_of}
use Rattle.net.proofs.Bools.{true_false}
use Rattle.net.proofs.Cases.{by_same}
use Rattle.circuit.specs.declared.record.Fields.{Fields}
use Rattle.circuit.specs.declared.record.Record.{Record}
use Rattle.circuit.specs.declared.record.Record.TheVariants.{Input, Constant, Operator, Multiplexer, Register, Enabled}
use Rattle.circuit.specs.Number.{u32_at}
use Rattle.circuit.specs.Record.{renumber}
use Rattle.circuit.specs.Reading.{fields_at, decode, encode}
use Rattle.circuit.specs.Circuit.{circuit, record_of}
use Rattle.circuit.specs.Checks.{Checked}
use Rattle.circuit.proofs.Decoding.{decode_width, input_test}
use Rattle.circuit.proofs.Stimuli.{both_true}
use Rattle.circuit.proofs.Records.{Valid}
use Rattle.circuit.proofs.Numbers.{fields_encoded}
use Rattle.circuit.proofs.Tables.{records_valid, circuit_length, circuit_record}
use Rattle.fact.specs.Fact.{fact_of, fact_at}
use Rattle.trim.specs.Trimmed.{replace, replaced}
use Rattle.trim.specs.Ready.{remains, Numbered}
use Rattle.trim.specs.Cells.{Below, renumber_fields, survivor_fields}
use Rattle.trim.proofs.Replaced.{replace_always, replace_input, replace_other, replaced_record}
use Rattle.trim.proofs.Cells.{fields_below}

-- ---- fields with other variable numbers

-- what a record does not use is 0, which stays 0
renumber_encode : (new : ℕ → ℕ) (r : Record) → new 0 ≡ 0 → renumber_fields new (encode r) ≡ encode (renumber new r)
renumber_encode new (Input w k) z = rw z
renumber_encode new (Constant w n) z = rw z
renumber_encode new (Operator w op a b) z = rw z
renumber_encode new (Multiplexer w a b c) z = refl
renumber_encode new (Register w a n) z = rw z
renumber_encode new (Enabled w a b n) z = rw z

pub fields_renumbered : (new : ℕ → ℕ) (f : Fields) (n : ℕ) → Valid f n → new 0 ≡ 0
    → renumber_fields new f ≡ encode (renumber new (decode f))
fields_renumbered new f n v z = ap (renumber_fields new) (fields_encoded f n v) ∙ renumber_encode new (decode f) z

-- ---- a survivor's fields

-- of variable v, by its fields and its fact
module _ (t : List ℕ) (n : ℕ) (certificate s : List ℕ) (v : ℕ) (table : Checked t n) (h : v < n) where
  abbrev byte : ℕ
  byte = get_or certificate (v * 8) 0

  abbrev number : ℕ
  number = u32_at certificate (v * 8 + 4)

  abbrev new : ℕ → ℕ
  new = place_of (remains (circuit t n) s)

  -- it is no input, and is called always
  abbrev constant : Fields → Bool
  constant f = not (eqb f.kind 0) && eqb byte 1

  valid : Valid (fields_at t (v * 16)) n
  valid = records_valid t n table.valid v h

  module _ {f : Fields} (e : f ≡ fields_at t (v * 16)) where
    record_is : record_of (replaced (circuit t n) (fact_at certificate)) v ≡ replace (fact_of byte number) (decode f)
    record_is =
        replaced_record (circuit t n) (fact_at certificate) v (omega (arith, circuit_length t n))
        ∙ ap (replace (fact_of byte number)) (circuit_record t n v h ∙ ap decode (sym e))

    pub constant_survives : {x : ℕ} → x ≡ number → constant f ≡ true
        → encode (Constant f.width x) ≡ survivor_fields (circuit t n) certificate s v
    constant_survives {x} k told =
        let (other, always) = both_true (not (eqb f.kind 0)) (eqb byte 1) told in
        let is : record_of (replaced (circuit t n) (fact_at certificate)) v ≡ Constant f.width x =
        record_is
        ∙ ap (λ (b : ℕ). replace (fact_of b number) (decode f)) (eqb-true byte 1 always)
        ∙ replace_always number (decode f) (sym (input_test f) ∙ not-true _ other)
        ∙ ap (λ (w : ℕ). Constant w number) (decode_width f)
        ∙ ap (Constant f.width) (sym k) in
        sym (ap (λ (r : Record). encode (renumber new r)) is)

    stays : constant f ≡ false → replace (fact_of byte number) (decode f) ≡ decode f
    stays told =
        by_same f.kind 0
        (λ k. replace_input (fact_of byte number) (decode f) (sym (input_test f) ∙ eq-eqb f.kind 0 k))
        (λ k. replace_other byte number (decode f)
        (λ one. true_false (sym (rw (ne_eqb f.kind 0 k, eq-eqb byte 1 one)) ∙ told)))

    pub survivor_below : Below n f
    survivor_below = rw e (fields_below (fields_at t (v * 16)) n valid (omega arith))

    pub renumbered_survives : Numbered (circuit t n) n s → constant f ≡ false
        → renumber_fields (λ u. get_or s (n + u) 0) f ≡ survivor_fields (circuit t n) certificate s v
    unfolding place_of
    renumbered_survives numbered told =
        let b = survivor_below in
        let found : renumber_fields (λ u. get_or s (n + u) 0) f ≡ renumber_fields new f =
        rw (numbered.number f.a b.a, numbered.number f.b b.b, numbered.number f.c b.c) in
        found
        ∙ fields_renumbered new f n (rw e valid) refl
        ∙ sym (ap (λ (r : Record). encode (renumber new r)) (record_is ∙ stays told))

-- Records and their fields: decoding gives back what was encoded; a record that is read is what its fields decode to,
-- and none of grounds 5 to 10 holds of them.
-- Assumes nothing.
use Rattle.std.proofs.Common.{◌≡◌, ℕ, ◌^◌, ◌<◌, ◌≤◌, Bool, true, false, not, ◌&&◌, ◌||◌, T, eqb, ltb, leb, List, [], ◌∷◌, sym, refl, ap, arith, lit<, lit≤, ltb-false, ltb-true, le-ltb, lt-ltb, ne_eqb, leb-false}
use mathlib.Core.Bool.{and-true}
use borrow.Author.Tests.{eqb-false, not-false, lt-leb}
use Rattle.net.specs.Tests.{every, member}
use Rattle.net.proofs.Bools.{T_of, of_T, by_test, not_both, every_at, fails}
use Rattle.circuit.specs.declared.record.Fields.{Fields}
use Rattle.circuit.specs.declared.record.InputKind.TheVariants.{Fixed, Free, Secret}
use Rattle.circuit.specs.declared.record.Record.{Record}
use Rattle.circuit.specs.declared.record.Record.TheVariants.{Input, Constant, Operator, Multiplexer, Register, Enabled}
use Rattle.std.specs.Prelude.{Result}
use Rattle.std.specs.Prelude.{Ok, Err}
use Rattle.circuit.specs.declared.refusal.Ground.{Ground}
use Rattle.circuit.specs.declared.refusal.Ground.TheVariants.{UnknownKind, BadWidth, UnknownCode, UnusedNotZero, NoSuchVariable, ValueTooWide}
use Rattle.circuit.specs.Operator.{operator_code}
use Rattle.circuit.specs.Record.{width, uses}
use Rattle.circuit.specs.Reading.{decode, encode, codes, unused, refuse_record, read_record}
use Rattle.circuit.proofs.Lookups.{operator_is}
use Rattle.circuit.proofs.Operators.{code_reads, operator_code_lem}

pub decode_encode : (r : Record) → decode (encode r) ≡ r
unfolding decode
decode_encode (Input w (Fixed n)) = refl
decode_encode (Input w Free) = refl
decode_encode (Input w Secret) = refl
decode_encode (Constant w n) = refl
decode_encode (Operator w op a b) = ap (λ o. Operator w o a b) (operator_code_lem op)
decode_encode (Multiplexer w a b c) = refl
decode_encode (Register w a n) = refl
decode_encode (Enabled w a b n) = refl

every_of : (p : ℕ → Bool) (l : List ℕ) → ((u : ℕ) → T (member u l) → T (p u)) → T (every p l)
every_of p l h = by_test (every p l) (λ t. t) (λ q. let (u, m, f) = fails p l q in not_both (p u) (h u m) f)

-- none of grounds 5 to 10 holds of a record's fields, among n records
pub record Valid (f : Fields) (n : ℕ) : Type 0 where
  pub kind : f.kind ≤ 5
  pub width_least : 1 ≤ f.width
  pub width_most : f.width ≤ 32
  pub code : f.code < codes f.kind
  pub zeros : every (λ x. eqb x 0) (f.byte3 ∷ f.bytes10 ∷ unused (decode f) f) ≡ true
  pub variables : every (λ v. ltb v n) (uses (decode f)) ≡ true
  pub value : f.value < 2 ^ f.width

-- a test that does not refuse_record fails, and what is tried next gives the record
passed : (reason : Ground) (b : Bool) (next : Result Record Ground) (r : Record) → refuse_record reason b next ≡ Ok r
    → (b ≡ false) × (next ≡ Ok r)
passed reason true next r e = absurd (let z : ◌≡◌ {A = ℕ} 0 1 = cc in omega arith)
passed reason false next r e = (refl, e)

pub both_false : (a b : Bool) → (a || b) ≡ false → (a ≡ false) × (b ≡ false)
both_false true b e = absurd (let z : ◌≡◌ {A = ℕ} 0 1 = cc in omega arith)
both_false false b e = (refl, e)

positive : (n : ℕ) → (n ≡ 0 → ⊥) → 1 ≤ n
positive n some = omega arith

same_record : {x y : Record} → ◌≡◌ {A = Result Record Ground} (Ok x) (Ok y) → x ≡ y
same_record e = cc

pub read_valid : (f : Fields) (n : ℕ) (r : Record) → read_record f n ≡ Ok r → Valid f n × (r ≡ decode f)
unfolding read_record
read_valid f n r e =
    let p5 = passed UnknownKind (ltb 5 f.kind) _ r e in
    let p6 = passed BadWidth (eqb f.width 0 || ltb 32 f.width) _ r p5.1 in
    let p7 = passed UnknownCode (leb (codes f.kind) f.code) _ r p6.1 in
    let p8 =
    passed UnusedNotZero (not (every (λ x. eqb x 0) (f.byte3 ∷ f.bytes10 ∷ unused (decode f) f))) _ r p7.1 in
    let p9 = passed NoSuchVariable (not (every (λ v. ltb v n) (uses (decode f)))) _ r p8.1 in
    let p10 = passed ValueTooWide (leb (2 ^ f.width) f.value) _ r p9.1 in
    let w = both_false (eqb f.width 0) (ltb 32 f.width) p6.0 in (
      record {
        kind = ltb-false 5 f.kind p5.0;
        width_least = positive f.width (eqb-false f.width 0 w.0);
        width_most = ltb-false 32 f.width w.1;
        code = leb-false (codes f.kind) f.code p7.0;
        zeros = not-false _ p8.0;
        variables = not-false _ p9.0;
        value = leb-false (2 ^ f.width) f.value p10.0;
      },
      sym (same_record p10.1),
    )

-- asking twice is asking once
pub and_twice : (a b : Bool) → (a && (a && b)) ≡ (a && b)
and_twice true b = refl
and_twice false b = refl

-- ---- the grounds in order

pub width_most : (w : ℕ) → (eqb w 0 || ltb 32 w) ≡ false → w ≤ 32
width_most w e = ltb-false 32 w (both_false (eqb w 0) (ltb 32 w) e).1

pub three_below : (a b c n : ℕ) → ltb a n ≡ true → ltb b n ≡ true → ltb c n ≡ every (λ v. ltb v n) (a ∷ b ∷ c ∷ [])
unfolding every
three_below a b c n h k = rw (h, k) (sym (and-true (ltb c n)))

module _ (f : Fields) (n : ℕ) where
  pub refused_kind : 6 ≤ f.kind → Err UnknownKind ≡ read_record f n
  unfolding read_record
  refused_kind h = rw (lt-ltb 5 f.kind h)

  module _ (kind : f.kind ≤ 5) where
    pub refused_width : (eqb f.width 0 || ltb 32 f.width) ≡ true → Err BadWidth ≡ read_record f n
    unfolding read_record
    refused_width w = rw (le-ltb 5 f.kind kind, w)

    module _ (w : (eqb f.width 0 || ltb 32 f.width) ≡ false) where
      pub refused_code : leb (codes f.kind) f.code ≡ true → Err UnknownCode ≡ read_record f n
      unfolding read_record
      refused_code k = rw (le-ltb 5 f.kind kind, w, k)

      module _ (k : leb (codes f.kind) f.code ≡ false) where
        pub refused_zeros : every (λ x. eqb x 0) (f.byte3 ∷ f.bytes10 ∷ unused (decode f) f) ≡ false
            → Err UnusedNotZero ≡ read_record f n
        unfolding read_record
        refused_zeros z = rw (le-ltb 5 f.kind kind, w, k, z)

        module _ (z : every (λ x. eqb x 0) (f.byte3 ∷ f.bytes10 ∷ unused (decode f) f) ≡ true) where
          pub refused_variables : every (λ v. ltb v n) (uses (decode f)) ≡ false
              → Err NoSuchVariable ≡ read_record f n
          unfolding read_record
          refused_variables u = rw (le-ltb 5 f.kind kind, w, k, z, u)

          module _ (u : every (λ v. ltb v n) (uses (decode f)) ≡ true) where
            pub refused_value : leb (2 ^ f.width) f.value ≡ true → Err ValueTooWide ≡ read_record f n
            unfolding read_record
            refused_value x = rw (le-ltb 5 f.kind kind, w, k, z, u, x)

            pub accepted : leb (2 ^ f.width) f.value ≡ false → Ok (decode f) ≡ read_record f n
            unfolding read_record
            accepted x = rw (le-ltb 5 f.kind kind, w, k, z, u, x)

-- fields of which no ground from 5 to 10 holds are read
pub valid_read : (f : Fields) (n : ℕ) → Valid f n → read_record f n ≡ Ok (decode f)
valid_read f n v =
    sym (accepted f n v.kind
    (rw (ne_eqb f.width 0 (λ e. omega (arith, v.width_least))) (le-ltb 32 f.width v.width_most))
    (lt-leb _ f.code v.code) v.zeros v.variables (lt-leb (2 ^ f.width) f.value v.value))

-- ---- the numbers of a record

-- they have its width
pub encode_width : (r : Record) → (encode r).width ≡ width r
encode_width (Input w k) = refl
encode_width (Constant w n) = refl
encode_width (Operator w op a b) = refl
encode_width (Multiplexer w a b c) = refl
encode_width (Register w a n) = refl
encode_width (Enabled w a b n) = refl

encode_kind : (r : Record) → (encode r).kind ≤ 5
encode_kind (Input w k) = lit≤ tt
encode_kind (Constant w n) = lit≤ tt
encode_kind (Operator w op a b) = lit≤ tt
encode_kind (Multiplexer w a b c) = lit≤ tt
encode_kind (Register w a n) = lit≤ tt
encode_kind (Enabled w a b n) = lit≤ tt

encode_code : (r : Record) → (encode r).code < codes (encode r).kind
encode_code (Input w (Fixed n)) = lit< tt
encode_code (Input w Free) = lit< tt
encode_code (Input w Secret) = lit< tt
encode_code (Constant w n) = lit< tt
encode_code (Operator w op a b) = (operator_is (operator_code op) op (code_reads op)).0
encode_code (Multiplexer w a b c) = lit< tt
encode_code (Register w a n) = lit< tt
encode_code (Enabled w a b n) = lit< tt

encode_zeros : (r : Record)
    → every (λ x. eqb x 0) ((encode r).byte3 ∷ (encode r).bytes10 ∷ unused (decode (encode r)) (encode r)) ≡ true
unfolding decode every
encode_zeros (Input w (Fixed n)) = refl
encode_zeros (Input w Free) = refl
encode_zeros (Input w Secret) = refl
encode_zeros (Constant w n) = refl
encode_zeros (Operator w op a b) = refl
encode_zeros (Multiplexer w a b c) = refl
encode_zeros (Register w a n) = refl
encode_zeros (Enabled w a b n) = refl

-- no ground from 5 to 10 holds of them where its width and its value are in range and it uses variables of the n alone
pub encode_valid : (r : Record) (n : ℕ) → 1 ≤ width r → width r ≤ 32 → (encode r).value < 2 ^ width r
    → ((u : ℕ) → T (member u (uses r)) → u < n) → Valid (encode r) n
encode_valid r n least most fits below =
    record {
      kind = encode_kind r;
      width_least = rw (encode_width r) least;
      width_most = rw (encode_width r) most;
      code = encode_code r;
      zeros = encode_zeros r;
      variables =
          rw (decode_encode r) (of_T _ (every_of (λ v. ltb v n) (uses r) (λ u m. T_of _ (lt-ltb u n (below u m)))));
      value = rw (encode_width r) fits;
    }

-- where none holds, every variable that it uses is one of the n
pub valid_uses : (r : Record) (n : ℕ) → Valid (encode r) n → (u : ℕ) → T (member u (uses r)) → u < n
valid_uses r n v u m =
    ltb-true u n (of_T _ (every_at (λ x. ltb x n) (uses r) (T_of _ (rw (decode_encode r) at v.variables)) u m))

-- The 16 bytes of a record's fields: what is read of them are the fields, and they are written one after another.
-- Assumes nothing.
use mathlib.Core.Path.{◌≡◌, refl, sym, ap, ◌∙◌, subst}
use mathlib.Core.List.{List, [], ◌∷◌}
use Prim.Native.Nat.{ℕ, zero, suc, ◌+◌, ◌^◌, ◌<◌, ◌≤◌}
use native.Mathlib.Nat.{not-suc-le-zero, le_of_suc-le-suc, add-zero, pow-le-pow_right}
use native.Mathlib.Numerals.{add-one}
use native.Mathlib.Omega.{arith}
use borrow.Author.Tests.{eqb-true}
use lib.Dec.{T, eqb, lit<}
use lib.ListN.{length, get_or, set, take}
use lib.Seq.{sets, take_all}
use Rattle.net.specs.Tests.{member}
use Rattle.net.proofs.Bools.{T_of, of_T, every_at, member_1, member_2, member_3}
use Rattle.buffer.specs.Store.{Wrote}
use Rattle.buffer.proofs.Layouts.{LayoutLaws, wrote_sets}
use Rattle.circuit.specs.declared.record.Fields.{Fields}
use Rattle.circuit.specs.declared.record.Record.{Record}
use Rattle.circuit.specs.declared.record.Record.TheVariants.{Input, Constant, Operator, Multiplexer, Register, Enabled}
use Rattle.circuit.specs.Record.{uses}
use Rattle.circuit.specs.Reading.{fields_at, decode, encode, field_bytes}
use Rattle.circuit.proofs.Records.{Valid, valid_uses}
use Rattle.circuit.proofs.Numbers.{fields_encoded}
use Rattle.circuit.proofs.Words.{u16_bytes_lem, u32_bytes_lem}
use Rattle.trim.specs.Cells.{field_cells, Below}

pub field_laws : LayoutLaws field_cells
field_laws =
    record {
      size = λ x. refl;
      local = λ k l i j h.
          let same : (m a b : ℕ) → m < 16 → a ≡ i + m → b ≡ j + m → get_or k a 0 ≡ get_or l b 0 =
          λ m a b q e e'. rw (e, e') (h m q) in
          cc (
            same 0 i j (omega arith) (omega arith) (omega arith),
            same 1 (i + 1) (j + 1) (omega arith) refl refl,
            same 2 (i + 2) (j + 2) (omega arith) refl refl,
            same 3 (i + 3) (j + 3) (omega arith) refl refl,
            same 4 (i + 4) (j + 4) (omega arith) refl refl,
            same 5 (i + 4 + 1) (j + 4 + 1) (omega arith) (omega arith) (omega arith),
            same 6 (i + 6) (j + 6) (omega arith) refl refl,
            same 7 (i + 6 + 1) (j + 6 + 1) (omega arith) (omega arith) (omega arith),
            same 8 (i + 8) (j + 8) (omega arith) refl refl,
            same 9 (i + 8 + 1) (j + 8 + 1) (omega arith) (omega arith) (omega arith),
            same 10 (i + 10) (j + 10) (omega arith) refl refl,
            same 11 (i + 10 + 1) (j + 10 + 1) (omega arith) (omega arith) (omega arith),
            same 12 (i + 12) (j + 12) (omega arith) refl refl,
            same 13 (i + 12 + 1) (j + 12 + 1) (omega arith) (omega arith) (omega arith),
            same 14 (i + 12 + 2) (j + 12 + 2) (omega arith) (omega arith) (omega arith),
            same 15 (i + 12 + 3) (j + 12 + 3) (omega arith) (omega arith) (omega arith),
          );
    }

-- ---- their variable numbers

encode_below : (n : ℕ) (r : Record) → ((u : ℕ) → T (member u (uses r)) → u < n) → 0 < n → Below n (encode r)
encode_below n (Input w k) h some = record { a = some; b = some; c = some }
encode_below n (Constant w x) h some = record { a = some; b = some; c = some }
encode_below n (Operator w op a b) h some = record { a = h a (member_1 _ _); b = h b (member_2 _ _ _); c = some }
encode_below n (Multiplexer w a b c) h some =
    record { a = h a (member_1 _ _); b = h b (member_2 _ _ _); c = h c (member_3 _ _ _ _) }
encode_below n (Register w a x) h some = record { a = h a (member_1 _ _); b = some; c = some }
encode_below n (Enabled w a b x) h some = record { a = h a (member_1 _ _); b = h b (member_2 _ _ _); c = some }

-- of fields of which none of grounds 5 to 10 holds, A, B and C are below the number of records: one that is not used
-- is 0
pub fields_below : (f : Fields) (n : ℕ) → Valid f n → 0 < n → Below n f
fields_below f n v some =
    let is = fields_encoded f n v in
    subst (Below n) (sym is) (encode_below n (decode f) (valid_uses (decode f) n (subst (λ g. Valid g n) is v)) some)

-- ---- reading and writing

-- the fields are numbers of 16 and of 32 bits
pub record Small (f : Fields) : Type 0 where
  pub a : f.a < 2 ^ 16
  pub b : f.b < 2 ^ 16
  pub c : f.c < 2 ^ 16
  pub bytes10 : f.bytes10 < 2 ^ 16
  pub value : f.value < 2 ^ 32

-- none of grounds 5 to 10 holds of them, in a table of at most 65,536 records
pub valid_small : (f : Fields) (n : ℕ) → 0 < n → n ≤ 65536 → Valid f n → Small f
valid_small f n some few v =
    let below = fields_below f n v some in
    let zero-bytes : f.bytes10 ≡ 0 =
    eqb-true _ _ (of_T _ (every_at (λ x. eqb x 0) _ (T_of _ v.zeros) f.bytes10 (member_2 _ _ _))) in
    record {
      a = omega (arith, below.a);
      b = omega (arith, below.b);
      c = omega (arith, below.c);
      bytes10 = omega arith;
      value = omega (arith, v.value, pow-le-pow_right {n = 2} (lit< tt) v.width_most);
    }

-- they are read back
pub fields_read : (f : Fields) → Small f → fields_at (field_bytes f) 0 ≡ f
fields_read f s =
    λ i. record {
      kind = f.kind;
      width = f.width;
      code = f.code;
      byte3 = f.byte3;
      a = u16_bytes_lem f.a s.a i;
      b = u16_bytes_lem f.b s.b i;
      c = u16_bytes_lem f.c s.c i;
      bytes10 = u16_bytes_lem f.bytes10 s.bytes10 i;
      value = u32_bytes_lem f.value s.value i;
    }

-- one more of the numbers that are written one after another
pub sets_next : (vs l : List ℕ) (at i : ℕ) → i < length vs
    → set (sets l at (take i vs)) (at + i) (get_or vs i 0) ≡ sets l at (take (i + 1) vs)
sets_next vs l at i h =
    next vs l at i h ∙ ap (λ (k : ℕ). sets l at (take k vs)) (sym (add-one i))
  where
    next : (vs l : List ℕ) (at i : ℕ) → i < length vs
        → set (sets l at (take i vs)) (at + i) (get_or vs i 0) ≡ sets l at (take (suc i) vs)
    next [] l at i h = absurd (not-suc-le-zero h)
    next (v ∷ vs) l at zero h = rw add-zero
    next (v ∷ vs) l at (suc i) h =
        let further : at + suc i ≡ suc at + i = omega arith in
        rw further (next vs (set l at v) (suc at) i (le_of_suc-le-suc h))

-- all 16 bytes of fields
pub fields_stored : (l : List ℕ) (at i : ℕ) (f : Fields) {l' bytes : List ℕ} → l' ≡ sets l at (take i bytes)
    → length bytes ≤ i → bytes ≡ field_bytes f → Small f → at + 16 ≤ length l → Wrote field_cells l l' at f
fields_stored l at i f {bytes = bytes} written all is s room =
    subst (λ (l' : List ℕ). Wrote field_cells l l' at f)
    (ap (sets l at) (sym is ∙ sym (take_all i bytes all)) ∙ sym written)
    (wrote_sets field_laws l at f (fields_read f s) room)

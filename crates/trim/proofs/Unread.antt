-- Two certificates that differ only in bytes that are not read have equal facts, and so two calls by them answer alike
-- and leave the same.
-- Assumes nothing.
use mathlib.Core.Path.{◌≡◌, refl, sym, ap, ◌∙◌, subst}
use mathlib.Core.Logic.{◌⊎◌, inl, inr}
use mathlib.Core.Bool.{Bool, not}
use mathlib.Core.List.{List, [], ◌∷◌, ◌++◌, flat_map}
use Prim.Native.Nat.{ℕ, zero, suc, ◌+◌, ◌*◌, ◌≤◌, ◌<◌}
use native.Mathlib.Omega.{arith}
use borrow.Author.Tests.{ne_eqb}
use lib.Dec.{eqb}
use lib.ListN.{length, get_or, drop}
use Rattle.std.specs.Prelude.{Ok, Err}
use Rattle.net.proofs.Cases.{by_same}
use Rattle.circuit.specs.declared.refusal.Ground.TheVariants.{BadCertificate}
use Rattle.circuit.specs.Refusal.{ground_number, Check, Finds, refuse, ◌then◌}
use Rattle.circuit.specs.Number.{u32_at}
use Rattle.circuit.specs.Reading.{record_bytes}
use Rattle.circuit.specs.Record.{width}
use Rattle.circuit.specs.Circuit.{Circuit, record_of}
use Rattle.circuit.proofs.Tables.{circuit_length}
use Rattle.fact.specs.Fact.{fact_of, fact_at}
use Rattle.fact.proofs.Cells.{fact_past}
use Rattle.call.specs.Call.{Lent, Left, Answer, output_of, size, circuit_of, PastEleven}
use Rattle.call.proofs.Contents.{BothLoops}
use Rattle.trim.specs.Trimmed.{survivors, trimmed}
use Rattle.trim.specs.Order.{check_kept, check_room, bad_fact, check_facts_from, check_certificate}
use Rattle.trim.specs.Promise.{second_of, called, Trims, trimming, CallTrims}
use Rattle.trim.specs.Unread.{SameRead}
use Rattle.trim.proofs.Replaced.{replaced_agree}
use Rattle.trim.proofs.Grounds.{bad_at}
use Rattle.trim.proofs.Promise.{trim_fixed}

-- ---- one fact

-- a number is read where the byte is 1 alone
fact_same : (byte x y : ℕ) → (byte ≡ 1 → x ≡ y) → fact_of byte x ≡ fact_of byte y
fact_same zero x y e = refl
fact_same (suc zero) x y e = ap (fact_of 1) (e refl)
fact_same (suc (suc zero)) x y e = refl
fact_same (suc (suc (suc byte))) x y e =
    fact_past (suc (suc (suc byte))) x (omega arith) ∙ sym (fact_past (suc (suc (suc byte))) y (omega arith))

bad_same : (w byte x y : ℕ) → (byte ≡ 1 → x ≡ y) → bad_fact w byte x ≡ bad_fact w byte y
bad_same w byte x y e = by_same byte 1 (λ is. ap (bad_fact w byte) (e is)) (λ ne. rw (ne_eqb byte 1 ne))

-- ---- the certificate

module _ (n : ℕ) (a b : List ℕ) (h : SameRead n a b) where
  number_same : (v : ℕ) → v < n → get_or b (v * 8) 0 ≡ 1 → u32_at a (v * 8 + 4) ≡ u32_at b (v * 8 + 4)
  number_same v below e = h.same_number v below (h.same_fact v below ∙ e)

  -- both have the same facts
  pub facts_same : (v : ℕ) → v < n → fact_at a v ≡ fact_at b v
  facts_same v below =
      ap (λ (byte : ℕ). fact_of byte (u32_at a (v * 8 + 4))) (h.same_fact v below)
      ∙ fact_same (get_or b (v * 8) 0) _ _ (number_same v below)

  bad_alike : (c : Circuit) (v : ℕ) → v < n → bad_at c a v ≡ bad_at c b v
  bad_alike c v below =
      ap (λ (byte : ℕ). bad_fact (width (record_of c v)) byte (u32_at a (v * 8 + 4))) (h.same_fact v below)
      ∙ bad_same (width (record_of c v)) (get_or b (v * 8) 0) _ _ (number_same v below)

  facts_alike : (c : Circuit) (count i : ℕ) → i + count ≤ n → check_facts_from c a count i ≡ check_facts_from c b count i
  unfolding check_facts_from
  facts_alike c zero i few = refl
  facts_alike c (suc count) i few =
      ap (λ (bad : Bool). refuse BadCertificate i bad (check_facts_from c a count (i + 1)))
      (bad_alike c i (omega arith))
      ∙ ap (refuse BadCertificate i (bad_at c b i)) (facts_alike c count (i + 1) (omega arith))

  -- and meet ground 22 alike
  pub certificates_alike : (c : Circuit) → length c ≡ n → check_certificate c a ≡ check_certificate c b
  unfolding check_certificate
  certificates_alike c e =
      ap (λ (bytes : ℕ). refuse BadCertificate 0 (not (eqb bytes (length c * 8))) (check_facts_from c a (length c) 0))
      h.equally_long
      ∙ ap (refuse BadCertificate 0 (not (eqb (length b) (length c * 8))))
      (facts_alike c (length c) 0 (omega arith))

-- ---- the call

module _ (a b kept : List ℕ) (l : Lent) (h : SameRead (size l) a b) where
  called_same : called b kept l ≡ called a kept l
  called_same =
      replaced_agree (circuit_of l) (fact_at b) (fact_at a)
      (λ v below. sym (facts_same (size l) a b h v (rw (circuit_length l.table (size l)) at below)))

  later_same : (trimming b kept).later l ≡ (trimming a kept).later l
  later_same =
      ap (λ (last : Check). check_kept (length (circuit_of l)) kept 0
      then check_room (length l.table) (length (output_of l.outputs)) (length (second_of l.outputs))
      then last)
      (sym (certificates_alike (size l) a b h (circuit_of l) (circuit_length l.table (size l))))

  trims_same : (outputs : List (List ℕ)) (k : ℕ) → Trims b kept l outputs k → Trims a kept l outputs k
  trims_same outputs k p =
      record {
        count = p.count ∙ ap (λ (c : Circuit). length (survivors c kept)) called_same;
        written =
            p.written
            ∙ ap (λ (c : Circuit). (flat_map record_bytes (trimmed c kept) ++ drop (k * 16) (output_of l.outputs))
            ∷ (survivors c kept ++ drop k (second_of l.outputs))
            ∷ []) called_same;
      }

  past_same : (e : Left) → PastEleven (trimming b kept) l e → PastEleven (trimming a kept) l e
  past_same e p = record { passed = p.passed; no_loop = p.no_loop; scratch = p.scratch }

  -- what is promised by one is promised by the other
  promise_same : (e : Left) (r : Answer) → CallTrims b kept l e r → CallTrims a kept l e r
  promise_same e (Ok k) p =
      record {
        past = past_same e p.past;
        later = sym later_same ∙ p.later;
        accepts = trims_same e.outputs k p.accepts;
      }
  promise_same e (Err r) (inl p) =
      inl (record { first = p.first; outputs = p.outputs; scratch = p.scratch })
  promise_same e (Err r) (inr (inl (is, p))) =
      inr (inl (
        is,
        record {
          passed = p.passed;
          row = p.row;
          loop = p.loop;
          lowest = p.lowest;
          row_length = p.row_length;
          outputs = p.outputs;
          scratch = p.scratch;
        },
      ))
  promise_same e (Err r) (inr (inr p)) =
      inr (inr (record {
        past = past_same e p.past;
        first = subst (λ (check : Check). Finds check (ground_number r.reason) r.place) later_same p.first;
        outputs = p.outputs;
      }))

  -- two calls by such certificates answer alike and leave the same, but for which loop is shown
  pub unread_fixed : (e e' : Left) (r r' : Answer) → CallTrims a kept l e r → CallTrims b kept l e' r'
      → ((r ≡ r') × (e ≡ e')) ⊎ BothLoops (trimming a kept) l e e' r r'
  unread_fixed e e' r r' p q = trim_fixed a kept l e e' r r' p (promise_same e' r' q)

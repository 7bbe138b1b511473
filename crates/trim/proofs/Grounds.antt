-- The grounds of trimming: the kept variables and the facts tried one after another, and what is known of a call that
-- meets none of them.
-- Assumes nothing.
use mathlib.Core.Path.{◌≡◌, refl, sym, ap, subst}
use mathlib.Core.Bool.{Bool, true, false, not, ◌||◌}
use Rattle.std.specs.Prelude.{Option, Some, None, cond}
use Rattle.std.specs.List.{position_from}
use mathlib.Core.List.{List, [], ◌∷◌}
use Prim.Native.Nat.{ℕ, zero, suc, ◌+◌, ◌*◌, ◌/◌, ◌^◌, ◌≤◌, ◌<◌}
use native.Mathlib.Nat.{not-suc-le-zero, le_of_suc-le-suc}
use native.Mathlib.Decide.{ℕ_discrete}
use native.Mathlib.Omega.{arith}
use borrow.Author.Tests.{ltb-false, leb-false, eqb-true, not-false, eq-eqb, ne_eqb}
use lib.Dec.{eqb, leb, ltb}
use lib.ListN.{length, get_or}
use Rattle.circuit.specs.declared.refusal.Ground.TheVariants.{NoSuchKept, TrimmedShort, BadCertificate}
use Rattle.circuit.specs.Refusal.{Check, passed, refused, refuse}
use Rattle.circuit.specs.Number.{u32_at}
use Rattle.circuit.specs.Record.{width}
use Rattle.circuit.specs.Reading.{fields_at}
use Rattle.circuit.specs.Circuit.{Circuit, circuit, record_of}
use Rattle.circuit.specs.Checks.{Checked}
use Rattle.circuit.proofs.Passing.{then_passed, refuse_passed}
use Rattle.circuit.proofs.Decoding.{decode_width}
use Rattle.circuit.proofs.Records.{both_false}
use Rattle.circuit.proofs.Tables.{circuit_length, circuit_record}
use Rattle.fact.specs.Fact.{fact_of}
use Rattle.trim.specs.Order.{check_kept, check_room, bad_fact, check_facts_from, check_certificate, check_trim}
use Rattle.trim.specs.Ready.{FactFits, Trimmable}

-- ---- the kept variables one after another

-- what is answered for the first of them that is past the records
abbrev pub kept_answer : Option ℕ → Check
kept_answer (Some i) = refused NoSuchKept i
kept_answer None = passed

kept_next : (n from v : ℕ) (b : Bool) (found : Option ℕ) (rest : Check) → kept_answer found ≡ rest
    → kept_answer (cond b (Some from) found) ≡ refuse NoSuchKept from b rest
kept_next n from v true found rest e = refl
kept_next n from v false found rest e = e

pub kept_first : (n : ℕ) (kept : List ℕ) (from : ℕ) → kept_answer (position_from (leb n) from kept) ≡ check_kept n kept from
unfolding check_kept
kept_first n [] from = refl
kept_first n (v ∷ vs) from = kept_next n from v (leb n v) _ _ (kept_first n vs (from + 1))

-- a table has as many variables as records
pub kept_here : (t : List ℕ) (n : ℕ) (kept : List ℕ) → check_kept n kept 0 ≡ check_kept (length (circuit t n)) kept 0
kept_here t n kept = ap (λ (k : ℕ). check_kept k kept 0) (sym (circuit_length t n))

kept_known : (n : ℕ) (kept : List ℕ) (from i : ℕ) → check_kept n kept from ≡ passed → i < length kept
    → get_or kept i 0 < n
unfolding check_kept
kept_known n [] from i e h = absurd (not-suc-le-zero h)
kept_known n (v ∷ vs) from zero e h = leb-false n v (refuse_passed NoSuchKept from (leb n v) _ e).0
kept_known n (v ∷ vs) from (suc i) e h =
    kept_known n vs (from + 1) i (refuse_passed NoSuchKept from (leb n v) _ e).1 (le_of_suc-le-suc h)

-- ---- the facts one after another

-- the fact of variable i is none, or does not fit
abbrev pub bad_at : Circuit → List ℕ → ℕ → Bool
bad_at c cells i = bad_fact (width (record_of c i)) (get_or cells (i * 8) 0) (u32_at cells (i * 8 + 4))

module _ (c : Circuit) (cells : List ℕ) where
  pub facts_pass : (count from : ℕ) → ((v : ℕ) → from ≤ v → v < from + count → bad_at c cells v ≡ false)
      → check_facts_from c cells count from ≡ passed
  unfolding check_facts_from
  facts_pass zero from h = refl
  facts_pass (suc count) from h =
      rw (h from (omega arith) (omega arith))
      (facts_pass count (from + 1) (λ v low high. h v (omega arith) (omega arith)))

  -- the first bad one is told
  pub facts_refused : (count from v : ℕ) → from ≤ v → v < from + count → bad_at c cells v ≡ true
      → ((u : ℕ) → from ≤ u → u < v → bad_at c cells u ≡ false)
      → check_facts_from c cells count from ≡ refused BadCertificate v
  unfolding check_facts_from
  facts_refused zero from v low high bad good = absurd (omega arith)
  facts_refused (suc count) from v low high bad good =
      elim (ℕ_discrete from v) [
        | yes e ↦ rw (e, bad)
        | no ne ↦
            rw (good from (omega arith) (omega arith))
            (facts_refused count (from + 1) v (omega arith) (omega arith) bad (λ u l h. good u (omega arith) h))
      ]

facts_known : (c : Circuit) (cells : List ℕ) (count i : ℕ) → check_facts_from c cells count i ≡ passed
    → (v : ℕ) → i ≤ v → v < i + count → bad_at c cells v ≡ false
unfolding check_facts_from
facts_known c cells zero i e v low high = absurd (omega arith)
facts_known c cells (suc count) i e v low high =
    let (here, later) = refuse_passed BadCertificate i (bad_at c cells i) (check_facts_from c cells count (i + 1)) e in
    elim (ℕ_discrete i v) [
      | yes q ↦ subst (λ (k : ℕ). bad_at c cells k ≡ false) q here
      | no q ↦ facts_known c cells count (i + 1) later v (omega arith) (omega arith)
    ]

-- the certificate's length, then its facts
module _ (t : List ℕ) (n : ℕ) (cells : List ℕ) where
  pub certificate_refused : (length cells ≡ n * 8 → ⊥) → check_certificate (circuit t n) cells ≡ refused BadCertificate 0
  unfolding check_certificate
  certificate_refused ne = rw (circuit_length t n, ne_eqb (length cells) (n * 8) ne)

  pub certificate_whole : length cells ≡ n * 8
      → check_certificate (circuit t n) cells ≡ check_facts_from (circuit t n) cells n 0
  unfolding check_certificate
  certificate_whole e = rw (circuit_length t n, eq-eqb (length cells) (n * 8) e)

-- what the code finds of variable v's fact is what the definition finds
pub bad_here : (t : List ℕ) (n v : ℕ) (cells : List ℕ) → v < n
    → bad_fact (fields_at t (v * 16)).width (get_or cells (v * 8) 0) (u32_at cells (v * 8 + 4))
    ≡ bad_at (circuit t n) cells v
bad_here t n v cells h = rw (circuit_record t n v h, decode_width (fields_at t (v * 16)))

-- ---- a call that meets none of the grounds

room_lent : (bytes trimmed numbers : ℕ) → check_room bytes trimmed numbers ≡ passed
    → (bytes ≤ trimmed) × (bytes / 16 ≤ numbers)
room_lent bytes trimmed numbers e =
    let tests = (refuse_passed TrimmedShort 0 (ltb trimmed bytes || ltb numbers (bytes / 16)) passed e).0 in
    let (first, second) = both_false (ltb trimmed bytes) (ltb numbers (bytes / 16)) tests in
    (ltb-false trimmed bytes first, ltb-false numbers (bytes / 16) second)

fact_fits : (w byte n : ℕ) → bad_fact w byte n ≡ false → FactFits w (fact_of byte n)
fact_fits w zero n e = tt
fact_fits w (suc zero) n e = leb-false (2 ^ w) n e
fact_fits w (suc (suc zero)) n e = tt
fact_fits w (suc (suc (suc byte))) n e = tt

pub trimmable : (t : List ℕ) (n : ℕ) (certificate kept : List ℕ) (trimmed numbers : ℕ) → Checked t n
    → check_trim (length t) (circuit t n) certificate kept trimmed numbers ≡ passed
    → Trimmable (circuit t n) n certificate kept trimmed numbers
unfolding check_certificate
trimmable t n certificate kept trimmed numbers table e =
    let c = circuit t n in
    let (known, rest) = then_passed (check_kept (length c) kept 0) _ e in
    let (room, facts) = then_passed (check_room (length t) trimmed numbers) _ rest in
    let (bytes, old) = room_lent (length t) trimmed numbers room in
    let (whole, each) =
    refuse_passed BadCertificate 0 (not (eqb (length certificate) (length c * 8)))
    (check_facts_from c certificate (length c) 0) facts in
    let size = circuit_length t n in
    let long : length certificate ≡ length c * 8 = eqb-true _ _ (not-false _ whole) in
    record {
      kept_below = λ i h. omega (arith, kept_known (length c) kept 0 i known h);
      trimmed_lent = omega (arith, table.long);
      numbers_lent = omega (arith, table.long);
      certificate_long = omega arith;
      fits = λ v h.
          fact_fits (width (record_of c v)) (get_or certificate (v * 8) 0) (u32_at certificate (v * 8 + 4))
          (facts_known c certificate (length c) 0 each v (omega arith) (omega arith));
    }

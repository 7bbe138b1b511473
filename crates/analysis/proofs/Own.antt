-- The 8 bytes of a fact beside those of its three numbers in the scratch, and what ground 24 finds and leaves.
-- Assumes nothing.
use mathlib.Core.Path.{◌≡◌, refl, sym, ap, ◌∙◌}
use mathlib.Core.Bool.{Bool, true, false, not}
use mathlib.Core.List.{List, ◌∷◌}
use Prim.Native.Nat.{ℕ, zero, suc, ◌+◌, ◌-◌, ◌*◌, ◌/◌, ◌%◌, ◌<◌, ◌≤◌}
use native.Mathlib.Nat.{add-zero, div-div-eq-div-mul}
use native.Mathlib.Omega.{arith}
use borrow.Author.Tests.{eq-eqb, eqb-true, not-true, not-false}
use lib.Dec.{eqb}
use lib.ListN.{length, get_or, take, drop, length-drop}
use lib.Seq.{ext_get_or, get_or-take, get_or-drop, length-take-le}
use Rattle.std.specs.Cmp.Lexicographic.{pointwise, same_text, other_text}
use Rattle.net.proofs.Bools.{T_of, of_T, not_both, all_at, all_of, fails_below}
use Rattle.buffer.specs.Store.{Stands}
use Rattle.circuit.specs.declared.refusal.Ground.{Ground}
use Rattle.circuit.specs.declared.refusal.Ground.TheVariants.{ForeignCertificate}
use Rattle.circuit.specs.Refusal.{Check}
use Rattle.circuit.specs.Refusal.{passed}
use Rattle.circuit.specs.Refusal.{refuse_first}
use Rattle.circuit.specs.Circuit.{Circuit, circuit}
use Rattle.circuit.proofs.Places.{Refusals}
use Rattle.circuit.proofs.First.{first_known, first_none, first_agree, first_refusals}
use Rattle.circuit.proofs.Tables.{circuit_length}
use Rattle.fact.specs.declared.Fact.{Fact}
use Rattle.fact.specs.Fact.{fact_byte, fact_number, fact_bytes}
use Rattle.fact.specs.Certificate.{certificate}
use Rattle.analysis.specs.Cells.{words, word_bytes, word_bytes_at}
use Rattle.analysis.specs.Own.{same_bytes, check_own}

-- ---- eight bytes

module _ (cells : List ℕ) (at : ℕ) (bytes : List ℕ) where
  abbrev same_at : ℕ → Bool
  same_at m = eqb (get_or cells (at + m) 0) (get_or bytes m 0)

  -- all eight are the same
  pub bytes_same : ((m : ℕ) → m < 8 → get_or cells (at + m) 0 ≡ get_or bytes m 0) → same_bytes cells at bytes ≡ true
  unfolding same_bytes
  bytes_same h = of_T _ (all_of same_at 8 (λ m l. T_of (same_at m) (eq-eqb _ _ (h m l))))

  pub bytes_known : same_bytes cells at bytes ≡ true → (m : ℕ) → m < 8 → get_or cells (at + m) 0 ≡ get_or bytes m 0
  unfolding same_bytes
  bytes_known e m l = eqb-true _ _ (of_T (same_at m) (all_at same_at 8 (T_of _ e) m l))

  some_differs : same_bytes cells at bytes ≡ false
      → (m : ℕ) × (m < 8) × (get_or cells (at + m) 0 ≡ get_or bytes m 0 → ⊥)
  unfolding same_bytes
  some_differs e =
      let (m, l, t) = fails_below same_at 8 (rw e tt) in
      (m, l, λ same. not_both (same_at m) (T_of (same_at m) (eq-eqb _ _ same)) t)

-- the first byte is one, and a test of the other seven in a row has told
module _ (cells : List ℕ) (at byte : ℕ) (row : List ℕ) (first : get_or cells at 0 ≡ byte) (seven : length row ≡ 7)
    (room : at + 8 ≤ length cells) where
  abbrev others : List ℕ
  others = take (at + 8 - (at + 1)) (drop (at + 1) cells)

  others_length : length others ≡ 7
  others_length =
      length-take-le (at + 8 - (at + 1)) (drop (at + 1) cells) (omega (arith, length-drop (at + 1) cells)) ∙ omega arith

  others_at : (m : ℕ) → m < 7 → get_or others m 0 ≡ get_or cells (at + suc m) 0
  others_at m l =
      let place : at + 1 + m ≡ at + suc m = omega arith in
      get_or-take (at + 8 - (at + 1)) (drop (at + 1) cells) m 0 (omega arith)
      ∙ get_or-drop (at + 1) cells m 0
      ∙ ap (λ (i : ℕ). get_or cells i 0) place

  row_same : others ≡ row → same_bytes cells at (byte ∷ row) ≡ true
  row_same e = bytes_same cells at (byte ∷ row) each
    where
      each : (m : ℕ) → m < 8 → get_or cells (at + m) 0 ≡ get_or (byte ∷ row) m 0
      each zero l = rw (add-zero at) first
      each (suc m) l = sym (others_at m (omega arith)) ∙ ap (λ (xs : List ℕ). get_or xs m 0) e

  row_known : same_bytes cells at (byte ∷ row) ≡ true → others ≡ row
  row_known e =
      ext_get_or 0 others row (others_length ∙ sym seven)
      (λ m l.
      let k : m < 7 = omega (arith, others_length) in
      others_at m k ∙ bytes_known cells at (byte ∷ row) e (suc m) (omega arith))

  pub row_told : (told : Bool) → told ≡ pointwise eqb others row → told ≡ same_bytes cells at (byte ∷ row)
  row_told true e = sym (row_same (same_text others row e))
  row_told false e = go (same_bytes cells at (byte ∷ row)) refl
    where
      go : (b : Bool) → same_bytes cells at (byte ∷ row) ≡ b → false ≡ b
      go true is = absurd (other_text others row e (row_known is))
      go false is = refl

-- ---- a fact's numbers in the scratch

-- the bytes of a fact are those of its three numbers
fact_words : (f : Fact) → word_bytes (fact_byte f) (fact_number f % 65536) (fact_number f / 65536) ≡ fact_bytes f
fact_words f =
    let n = fact_number f in
    let first : n % 65536 % 256 ≡ n % 256 = omega arith in
    let parts : n / 256 ≡ n % 65536 / 256 + 256 * (n / 65536) = omega arith in
    let second : n % 65536 / 256 % 256 ≡ n / 256 % 256 = rw parts (omega arith) in
    rw (first, second, div-div-eq-div-mul n 65536 256)

module _ {n : ℕ} {f : ℕ → Fact} {s : List ℕ} (stands : Stands words 0 n f s) where
  words_bytes : (v : ℕ) → v < n → word_bytes_at s v ≡ fact_bytes (f v)
  words_bytes v h =
      let number : (m i : ℕ) → m < 3 → i ≡ 0 + v * 3 + m → get_or s i 0 ≡ get_or (words.image (f v)) m 0 =
      λ m i l e. ap (λ (k : ℕ). get_or s k 0) e ∙ (stands.cell v h).stands m l in
      rw (
        number 0 (v * 3) (omega arith) (omega arith),
        number 1 (v * 3 + 1) (omega arith) (omega arith),
        number 2 (v * 3 + 2) (omega arith) (omega arith),
      )
      (fact_words (f v))

-- ---- ground 24

-- the 8 bytes of variable v are not those of its three numbers in the scratch
abbrev pub differs : List ℕ → List ℕ → ℕ → Bool
differs cells s v = not (same_bytes cells (v * 8) (word_bytes_at s v))

-- what the variables from number i on meet
abbrev pub own_from : ℕ → List ℕ → List ℕ → ℕ → Check
own_from n cells s i = refuse_first ForeignCertificate (differs cells s) (n - i) i

-- what the code finds beside the facts in the scratch, where they are the certificate's, is ground 24
pub own_found : (t : List ℕ) (n : ℕ) (cells s : List ℕ) → Stands words 0 n (certificate (circuit t n)) s
    → refuse_first ForeignCertificate (λ v. not (same_bytes cells (v * 8) (word_bytes_at s v))) n 0
    ≡ check_own (circuit t n) cells
unfolding check_own
own_found t n cells s stands =
    let c = circuit t n in
    let own : ℕ → Bool = λ v. not (same_bytes cells (v * 8) (fact_bytes (certificate c v))) in
    first_agree ForeignCertificate (λ v. not (same_bytes cells (v * 8) (word_bytes_at s v))) own n 0
    (λ v low high. ap (λ (bytes : List ℕ). not (same_bytes cells (v * 8) bytes)) (words_bytes stands v (omega arith)))
    ∙ ap (λ (k : ℕ). refuse_first ForeignCertificate own k 0) (sym (circuit_length t n))

module _ (c : Circuit) (cells : List ℕ) where
  -- byte m of variable v is that of the certificate
  abbrev pub OwnByte : ℕ → ℕ → Type 0
  OwnByte v m = get_or cells (v * 8 + m) 0 ≡ get_or (fact_bytes (certificate c v)) m 0

  -- where it passes, all bytes are the certificate's
  pub own_known : check_own c cells ≡ passed → (v m : ℕ) → v < length c → m < 8 → OwnByte v m
  unfolding check_own
  own_known e v m h l =
      bytes_known cells (v * 8) (fact_bytes (certificate c v))
      (not-false _ (first_known ForeignCertificate _ (length c) 0 e v (omega arith) (omega arith))) m l

  -- where all are, it passes
  pub own_passes : ((v m : ℕ) → v < length c → m < 8 → OwnByte v m) → check_own c cells ≡ passed
  unfolding check_own
  own_passes h =
      first_none ForeignCertificate _ (length c) 0
      (λ v low high. ap not (bytes_same cells (v * 8) (fact_bytes (certificate c v)) (λ m l. h v m (omega arith) l)))

  -- what holds of the first variable with another byte, on ground 24, holds of what is found
  pub own_refusals : (P : Ground → ℕ → Type 0)
      → ((v : ℕ) → v < length c → (m : ℕ) × (m < 8) × (OwnByte v m → ⊥)
      → ((u m : ℕ) → u < v → m < 8 → OwnByte u m) → P ForeignCertificate v)
      → Refusals P (check_own c cells)
  unfolding check_own
  own_refusals P h =
      first_refusals ForeignCertificate _ P (length c) 0
      (λ v low high is before.
      h v (omega arith) (some_differs cells (v * 8) (fact_bytes (certificate c v)) (not-true _ is))
      (λ u m l k. bytes_known cells (u * 8) (fact_bytes (certificate c u)) (not-false _ (before u (omega arith) l)) m k))

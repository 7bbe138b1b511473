-- A table that is certified and then trimmed by that certificate: the lines that the certificate has for what remains
-- are the trimmed table's certificate, whether a certifying call is made on it or not. So demand 3 holds of the trimmed
-- table with these lines.
-- Assumes nothing.
use mathlib.Core.Path.{◌≡◌, sym, ap, ◌∙◌}
use mathlib.Core.List.{List}
use Prim.Native.Nat.{ℕ, ◌+◌, ◌*◌, ◌/◌, ◌%◌, ◌<◌}
use native.Mathlib.Omega.{arith}
use lib.ListN.{length, take, get_or}
use Rattle.std.specs.Prelude.{Ok}
use Rattle.net.proofs.Lists.{get_or_list_below}
use Rattle.circuit.specs.Circuit.{Circuit, circuit}
use Rattle.circuit.proofs.Tables.{Inside, circuit_length, circuit_inside}
use Rattle.fact.specs.Fact.{fact_at}
use Rattle.fact.specs.Certificate.{LeastStore, certificate}
use Rattle.fact.proofs.Cells.{facts_laws}
use Rattle.fact.proofs.Certificate.{least_agree, certificate_least}
use Rattle.call.specs.Call.{lent, left}
use Rattle.certificate.specs.Promise.{Certifies}
use Rattle.machine.specs.Promise.{Benches}
use Rattle.trim.specs.Promise as trim-call
use Rattle.trim.specs.Promise.{CallTrims}
use Rattle.trim.specs.Trimmed.{replaced, trimmed}
use Rattle.trim.proofs.Certificates.{certificate_follows}
use Rattle.trim.proofs.Accepted.{trimmed_records, trimmed_records_pass, trimmed_without_loop}
use Rattle.guarantee.specs.TwoRuns.{AlikeStimuli, ClaimsHold}
use Rattle.guarantee.specs.Trimmed.{survivor_lines}
use Rattle.guarantee.proofs.Certified.{certified_inside, facts_certified}
use Rattle.guarantee.proofs.Trimming.{own_size, own_circuit, own_numbers, own_below}
use Rattle.guarantee.proofs.TwoRuns.{facts_guaranteed}

-- byte m of line j
line_byte : (numbers : List ℕ) (k : ℕ) (cells : List ℕ) (j m : ℕ) → j < k → m < 8
    → get_or (survivor_lines numbers k cells) (j * 8 + m) 0 ≡ get_or cells (get_or numbers j 0 * 8 + m) 0
unfolding survivor_lines
line_byte numbers k cells j m below h =
    let line : (j * 8 + m) / 8 ≡ j = omega arith in
    let byte : (j * 8 + m) % 8 ≡ m = omega arith in
    get_or_list_below (λ i. get_or cells (get_or numbers (i / 8) 0 * 8 + i % 8) 0) (k * 8) (j * 8 + m) 0 (omega arith)
    ∙ ap (λ (i : ℕ). get_or cells (get_or numbers i 0 * 8 + (j * 8 + m) % 8) 0) line
    ∙ ap (λ (i : ℕ). get_or cells (get_or numbers j 0 * 8 + i) 0) byte

module _ {t cells scratch cells' scratch' : List ℕ} {rounds : ℕ}
    (p : Certifies (lent t cells scratch) (left cells' scratch') (Ok rounds))
    {kept first second scratch₁ first' numbers scratch₁' : List ℕ} {k : ℕ}
    (q : CallTrims (take (length t / 16 * 8) cells') kept (trim-call.lent t first second scratch₁)
    (trim-call.left first' numbers scratch₁') (Ok k)) where
  abbrev n : ℕ
  n = length t / 16

  abbrev c : Circuit
  c = circuit t n

  -- the trimmed table and its circuit
  abbrev t' : List ℕ
  t' = take (k * 16) first'

  abbrev c' : Circuit
  c' = circuit t' (length t' / 16)

  inside' : Inside c'
  inside' = circuit_inside t' (length t' / 16) (trimmed_records_pass q)

  -- the lines hold the facts of the trimmed table's certificate
  lines_own : (j : ℕ) → j < length c' → fact_at (survivor_lines numbers k cells') j ≡ certificate c' j
  lines_own j below =
      let small : j < k = omega (arith, trimmed_records q, circuit_length t' (length t' / 16)) in
      let variable : j < length (trimmed (replaced c (certificate c)) kept) = rw (← own_size p q) small in
      let old : get_or numbers j 0 < length c = omega (arith, own_below p q j small, circuit_length t n) in
      facts_laws.local (survivor_lines numbers k cells') cells' (j * 8) (get_or numbers j 0 * 8)
      (λ m h. line_byte numbers k cells' j m small h)
      ∙ facts_certified p (get_or numbers j 0) old
      ∙ ap (certificate c) (own_numbers p q j small)
      ∙ sym (certificate_follows c kept (certified_inside p) p.past.no_loop j variable)
      ∙ sym (ap (λ (d : Circuit). certificate d j) (own_circuit p q))

  -- they are the least closed store of the trimmed table
  pub lines_least : LeastStore c' (fact_at (survivor_lines numbers k cells'))
  lines_least =
      least_agree c' inside' (certificate c') (fact_at (survivor_lines numbers k cells')) lines_own
      (certificate_least c' inside' (trimmed_without_loop q))

  -- demand 3 of the trimmed table: what the lines claim holds of two accepted runs on lists that are alike
  pub trimmed_two_runs : {s₁ values₁ scratch₂ values₁' scratch₂' s₂ values₂ scratch₃ values₂' scratch₃' : List ℕ}
      → Benches s₁ (lent (take (k * 16) first') values₁ scratch₂) (left values₁' scratch₂') (Ok tt)
      → Benches s₂ (lent (take (k * 16) first') values₂ scratch₃) (left values₂' scratch₃') (Ok tt)
      → AlikeStimuli (take (k * 16) first') s₁ s₂
      → ClaimsHold (take (k * 16) first') (survivor_lines numbers k cells') values₁' values₂'
  trimmed_two_runs =
      facts_guaranteed t' (survivor_lines numbers k cells') inside' (trimmed_without_loop q) lines_own

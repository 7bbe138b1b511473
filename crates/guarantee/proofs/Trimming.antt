-- A table that a certifying call accepts and that is then trimmed by the certificate's bytes: the trimmed table's
-- circuit is the one that is trimmed by the circuit's certificate, and the numbers beside it are the old ones.
-- Assumes nothing.
use mathlib.Core.Path.{◌≡◌, ap, ◌∙◌}
use mathlib.Core.List.{List}
use Prim.Native.Nat.{ℕ, ◌+◌, ◌*◌, ◌/◌, ◌<◌}
use native.Mathlib.Omega.{arith}
use lib.ListN.{length, take, get_or}
use lib.Seq.{get_or-take}
use Rattle.std.specs.Prelude.{Ok}
use Rattle.circuit.specs.Circuit.{Circuit, circuit}
use Rattle.circuit.proofs.Tables.{circuit_length}
use Rattle.fact.specs.Fact.{fact_at}
use Rattle.fact.specs.Certificate.{certificate}
use Rattle.fact.proofs.Cells.{facts_laws}
use Rattle.call.specs.Call.{lent, left}
use Rattle.certificate.specs.Promise.{Certifies}
use Rattle.trim.specs.Promise as trim-call
use Rattle.trim.specs.Promise.{CallTrims}
use Rattle.trim.specs.Trimmed.{replaced, trimmed}
use Rattle.trim.proofs.Replaced.{replaced_agree}
use Rattle.trim.proofs.Survivors.{old_number}
use Rattle.trim.proofs.TrimmedRecords.{old_below}
use Rattle.trim.proofs.Accepted.{trimmed_size, trimmed_records, trimmed_circuit, numbers_written}
use Rattle.guarantee.proofs.Certified.{facts_certified}

module _ {t cells scratch cells' scratch' : List ℕ} {rounds : ℕ}
    (p : Certifies (lent t cells scratch) (left cells' scratch') (Ok rounds)) where
  abbrev n : ℕ
  n = length t / 16

  abbrev c : Circuit
  c = circuit t n

  abbrev c₁ : Circuit
  c₁ = replaced c (certificate c)

  -- the certificate's own bytes hold its facts
  pub facts_own : (v : ℕ) → v < length c → fact_at (take (n * 8) cells') v ≡ certificate c v
  facts_own v below =
      let variable : v < n = rw (circuit_length t n) at below in
      facts_laws.local (take (n * 8) cells') cells' (v * 8) (v * 8)
      (λ m h. get_or-take (n * 8) cells' (v * 8 + m) 0 (omega arith))
      ∙ facts_certified p v below

  module _ {kept first second scratch₁ first' numbers scratch₁' : List ℕ} {k : ℕ}
      (q : CallTrims (take (length t / 16 * 8) cells') kept (trim-call.lent t first second scratch₁)
      (trim-call.left first' numbers scratch₁') (Ok k)) where
    replaced_own : replaced c (fact_at (take (n * 8) cells')) ≡ c₁
    replaced_own = replaced_agree c (fact_at (take (n * 8) cells')) (certificate c) facts_own

    -- the number that is answered is that of the trimmed circuit's variables
    pub own_size : k ≡ length (trimmed c₁ kept)
    own_size =
        trimmed_size q
        ∙ ap (λ (d : Circuit). length (trimmed d kept)) replaced_own

    -- the trimmed table's circuit is the trimmed circuit
    pub own_circuit : circuit (take (k * 16) first') (length (take (k * 16) first') / 16) ≡ trimmed c₁ kept
    own_circuit =
        ap (circuit (take (k * 16) first')) (trimmed_records q) ∙ trimmed_circuit q
        ∙ ap (λ (d : Circuit). trimmed d kept) replaced_own

    -- the numbers beside it are its variables' old ones
    pub own_numbers : (j : ℕ) → j < k → get_or numbers j 0 ≡ old_number c₁ kept j
    own_numbers j h =
        numbers_written q j h
        ∙ ap (λ (d : Circuit). old_number d kept j) replaced_own

    -- which are the table's
    pub own_below : (j : ℕ) → j < k → get_or numbers j 0 < length t / 16
    own_below j h =
        omega (arith, own_numbers j h, old_below c (certificate c) kept j (rw (← own_size) h), circuit_length t n)

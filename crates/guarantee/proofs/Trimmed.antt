-- A table that is certified and then trimmed by that certificate, and two bench calls: one on it, accepted, and one on
-- the trimmed table with the list's pokes renumbered, lent as much as it asks. Then that one is accepted too, every
-- variable of the trimmed table holds what its old one holds, and every kept variable is one of these.
-- Assumes nothing.
use mathlib.Core.Path.{◌≡◌, sym, ap, ◌∙◌, subst}
use mathlib.Core.List.{List}
use Prim.Native.Nat.{ℕ, ◌*◌, ◌/◌, ◌≤◌, ◌<◌}
use native.Mathlib.Omega.{arith}
use lib.ListN.{length, take, get_or}
use Rattle.std.specs.Prelude.{Result, Ok}
use Rattle.net.proofs.Loops.{member_get_or}
use Rattle.circuit.specs.declared.refusal.Refusal.{Refusal}
use Rattle.circuit.specs.Refusal.{passed}
use Rattle.circuit.specs.Circuit.{Circuit, circuit}
use Rattle.circuit.specs.Machine.{machine}
use Rattle.circuit.specs.Stimuli.{check_stimuli, stimuli}
use Rattle.circuit.proofs.Tables.{circuit_length}
use Rattle.circuit.proofs.Stimuli.{stimuli_accepted}
use Rattle.fact.specs.Certificate.{certificate}
use Rattle.call.specs.Call.{lent, left}
use Rattle.certificate.specs.Promise.{Certifies}
use Rattle.machine.specs.Promise.{Benches}
use Rattle.machine.proofs.Satisfied.{value_written}
use Rattle.trim.specs.Promise as trim-call
use Rattle.trim.specs.Promise.{CallTrims}
use Rattle.trim.specs.Trimmed.{replaced, new_number, trimmed}
use Rattle.trim.proofs.Replaced.{replaced_length}
use Rattle.trim.proofs.Survivors.{old_number, kept_survive, old_new, new_below, trimmed_length}
use Rattle.trim.proofs.Machines.{machine_follows}
use Rattle.trim.proofs.Accepted.{accepted_trimmable, trimmed_records, trimmed_length_passes, trimmed_records_pass}
use Rattle.trim.proofs.Accepted.{trimmed_without_loop}
use Rattle.guarantee.specs.Trimmed.{RenumberedStimuli, TrimmedAlike}
use Rattle.guarantee.proofs.Passing.{bench_accepted}
use Rattle.guarantee.proofs.Renumbered.{stimuli_renumbered, renumbered_passes}
use Rattle.guarantee.proofs.Certified.{certified_inside}
use Rattle.guarantee.proofs.Trimming.{own_size, own_circuit, own_numbers, own_below}

module _ {t cells scratch cells' scratch' : List ℕ} {rounds : ℕ}
    (p : Certifies (lent t cells scratch) (left cells' scratch') (Ok rounds))
    {kept first second scratch₁ first' numbers scratch₁' : List ℕ} {k : ℕ}
    (q : CallTrims (take (length t / 16 * 8) cells') kept (trim-call.lent t first second scratch₁)
    (trim-call.left first' numbers scratch₁') (Ok k))
    {s values scratch₂ values' scratch₂' : List ℕ}
    (b : Benches s (lent t values scratch₂) (left values' scratch₂') (Ok tt)) where
  abbrev n : ℕ
  n = length t / 16

  abbrev c : Circuit
  c = circuit t n

  abbrev c₁ : Circuit
  c₁ = replaced c (certificate c)

  abbrev c' : Circuit
  c' = trimmed c₁ kept

  abbrev t' : List ℕ
  t' = take (k * 16) first'

  -- ---- numbers

  size : k ≡ length c'
  size = own_size p q

  olds : (j : ℕ) → j < k → get_or numbers j 0 ≡ old_number c₁ kept j
  olds = own_numbers p q

  records : length t' / 16 ≡ k
  records = trimmed_records q

  -- a kept variable has a new number
  kept_numbered : (i : ℕ) → i < length kept → (j : ℕ) × (j < k) × (get_or numbers j 0 ≡ get_or kept i 0)
  kept_numbered i h =
      let v = get_or kept i 0 in
      let below : v < length c₁ =
      omega (
        arith,
        (accepted_trimmable q).kept_below i h,
        circuit_length t n,
        replaced_length c (certificate c),
      ) in
      let survives = kept_survive c₁ kept v below (member_get_or kept i h) in
      let new : new_number c₁ kept v < k =
      omega (arith, size, trimmed_length c₁ kept, new_below c₁ kept v below survives) in
      (new_number c₁ kept v, new, olds _ new ∙ old_new c₁ kept v below survives)

  -- ---- the runs

  module _ (s' values₁ scratch₃ values₁' scratch₃' : List ℕ) (r : Result Unit Refusal)
      (b' : Benches s' (lent (take (k * 16) first') values₁ scratch₃) (left values₁' scratch₃') r)
      (output : k ≤ length values₁) (room : k * 4 ≤ length scratch₃) (h : RenumberedStimuli numbers k s s') where
    later : check_stimuli (circuit t' (length t' / 16)) s' ≡ passed
    later =
        rw (own_circuit p q)
        (renumbered_passes c kept (certified_inside p) p.past.no_loop numbers k size olds s s' h b.later)

    accepted : r ≡ Ok tt
    accepted =
        bench_accepted t' values₁ scratch₃ (trimmed_length_passes q) (trimmed_records_pass q) (trimmed_without_loop q)
        s' (left values₁' scratch₃') r (rw records output) (rw records room) later b'

    same : (j : ℕ) → j < k → get_or values₁' j 0 ≡ get_or values' (get_or numbers j 0) 0
    same j below =
        value_written s' _ _
        (subst (Benches s' (lent t' values₁ scratch₃) (left values₁' scratch₃')) accepted b') j (rw records below)
        ∙ ap (λ (d : Circuit). machine d (stimuli s') j) (own_circuit p q)
        ∙ machine_follows c kept (certified_inside p) p.past.no_loop
        (stimuli_renumbered c kept (certified_inside p) p.past.no_loop numbers k size olds s s' h)
        (stimuli_accepted c s b.later) j (rw (← size) below)
        ∙ ap (machine c (stimuli s)) (sym (olds j below))
        ∙ sym (value_written s _ _ b (get_or numbers j 0) (own_below p q j below))

    -- the second list is accepted, and the two runs end in the same values, along old numbers
    pub trimmed_alike : TrimmedAlike kept numbers k values' values₁' r
    trimmed_alike =
        record {
          accepted = accepted;
          same = same;
          kept_same = λ i below.
              let (j, new, is) = kept_numbered i below in
              (j, new, is, same j new ∙ ap (λ (v : ℕ). get_or values' v 0) is);
        }

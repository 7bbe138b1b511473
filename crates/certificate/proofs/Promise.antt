-- From what the parts of the certifying call give to its promise; and that the promise fixes the certificate.
-- Assumes nothing.
use mathlib.Core.Path.{◌≡◌, refl, sym, ap, ◌∙◌, subst}
use mathlib.Core.Logic.{◌⊎◌}
use mathlib.Core.List.{List, [], ◌∷◌, ◌++◌, flat_map}
use Prim.Native.Nat.{ℕ, ◌*◌}
use native.Mathlib.Omega.{arith}
use lib.ListN.{drop, replicate}
use Rattle.net.specs.Net.{list_below, after, stopped, Counts}
use Rattle.net.proofs.Rounds.{counts_unique}
use Rattle.buffer.specs.Store.{Holds}
use Rattle.buffer.proofs.Store.{stands_read, holds_whole}
use Rattle.circuit.specs.Refusal.{passed}
use Rattle.circuit.specs.Circuit.{Circuit, graph}
use Rattle.circuit.proofs.Tables.{Inside, circuit_length, circuit_inside}
use Rattle.fact.specs.Fact.{fact_bytes, fact_at}
use Rattle.fact.specs.Cells.{facts}
use Rattle.fact.specs.Rule.{rule}
use Rattle.fact.specs.Certificate.{initial_store, rounds, certificate}
use Rattle.fact.proofs.Cells.{facts_laws}
use Rattle.fact.proofs.Certificate.{least_agree, certificate_least, rounds_counted, rounds_few}
use Rattle.schedule.specs.Schedule.{IsOrder}
use Rattle.engine.specs.Ready.{Ready}
use Rattle.engine.proofs.Standing.{ordered_ready}
use Rattle.call.specs.Call.{Lent, Left, Answer, lent, left, output_of, size, circuit_of, checked, part, AcceptedWith}
use Rattle.call.proofs.Parts.{table_checked, outputs_lent, past_eleven}
use Rattle.call.proofs.Contents.{BothLoops, contents_fixed}
use Rattle.certificate.specs.Promise.{room, Certificate, certifying, Certifies}

module _ (t cells scratch : List ℕ) (ok : checked certifying (lent t cells scratch) ≡ passed) where
  abbrev l : Lent
  l = lent t cells scratch

  abbrev c : Circuit
  c = circuit_of l

  pub ready : {ordered : List ℕ} {wires registers : ℕ} → IsOrder c (part certifying l) scratch ordered wires registers
      → Ready facts room t (size l) ordered wires registers cells
  ready =
      ordered_ready (record { table = table_checked certifying l ok; lent = (outputs_lent certifying l ok).0 })
      (omega arith)

  pub certified : {ordered : List ℕ} {wires registers : ℕ} {cells' scratch' : List ℕ} {k : ℕ}
      → IsOrder c (part certifying l) scratch ordered wires registers → k ≡ rounds c
      → Holds facts (size l) (certificate c) cells cells'
      → scratch' ≡ replicate (part certifying l) 0 ++ drop (part certifying l) ordered
      → AcceptedWith certifying l (left cells' scratch') k
  unfolding certificate stopped rounds
  certified {cells' = cells'} {k = k} o e holds cleared =
      let past = past_eleven certifying l ok (omega arith) o cleared in
      let inside : Inside c = circuit_inside t (size l) (table_checked certifying l ok).valid in
      record {
        past = past;
        later = refl;
        accepts = record {
          counts =
              subst (λ (j : ℕ). Counts (graph c) (rule c) (initial_store c) j) (sym e)
              (rounds_counted c inside past.no_loop);
          few = rw e (rounds_few c inside past.no_loop);
          certificate =
              ap (λ (bytes : List ℕ). bytes ∷ [])
              (holds_whole facts_laws (outputs_lent certifying l ok).0 holds
              ∙ ap (λ (j : ℕ). flat_map fact_bytes (list_below (after (graph c) (rule c) j (initial_store c)) (size l))
              ++ drop (size l * 8) cells) (sym e));
          least =
              least_agree c inside (certificate c) (fact_at cells')
              (λ v below. stands_read holds.stands v (omega (arith, circuit_length t (size l))))
              (certificate_least c inside past.no_loop);
        };
      }

-- two certificates of what is lent are the same, and so are their counts
pub certificate_determined : (l : Lent) (o o' : List (List ℕ)) (k k' : ℕ) → Certificate l o k → Certificate l o' k'
    → (k ≡ k') × (o ≡ o')
certificate_determined l o o' k k' p q =
    let c = circuit_of l in
    let e : k ≡ k' = counts_unique (graph c) (rule c) (initial_store c) k k' p.counts q.counts in (
      e,
      p.certificate
          ∙ ap (λ (j : ℕ). (flat_map fact_bytes (list_below (after (graph c) (rule c) j (initial_store c)) (size l))
          ++ drop (size l * 8) (output_of l.outputs)) ∷ []) e
          ∙ sym q.certificate,
    )

-- demand 1: two calls on what is lent alike answer alike and leave the same, but for which loop is shown
pub certify_fixed : (l : Lent) (e e' : Left) (r r' : Answer) → Certifies l e r → Certifies l e' r'
    → ((r ≡ r') × (e ≡ e')) ⊎ BothLoops certifying l e e' r r'
certify_fixed l = contents_fixed certifying l (certificate_determined l)

-- Demand 3: a certifying call that accepts a table and two bench calls on it, both accepted, on lists that are alike.
-- What the certificate's bytes claim holds of the numbers that the bench calls write, over both lists entire. So three
-- calls that keep their promises guarantee it, whatever they answer.
-- Assumes nothing.
use mathlib.Core.Path.{◌≡◌, sym, ◌∙◌, subst}
use mathlib.Core.Logic.{⊎_elim}
use mathlib.Core.List.{List}
use Prim.Native.Nat.{ℕ, ◌+◌, ◌*◌, ◌/◌, ◌<◌}
use native.Mathlib.Omega.{arith}
use lib.ListN.{length, get_or}
use Rattle.std.specs.Prelude.{Result, Ok}
use Rattle.circuit.specs.declared.refusal.Refusal.{Refusal}
use Rattle.circuit.specs.Number.{u32_at}
use Rattle.circuit.specs.Circuit.{Circuit, circuit, NoLoop}
use Rattle.circuit.specs.Stimuli.{stimuli}
use Rattle.circuit.proofs.Tables.{Inside, circuit_length}
use Rattle.circuit.proofs.Stimuli.{stimuli_accepted}
use Rattle.fact.specs.Fact.{fact_at}
use Rattle.fact.specs.Certificate as definition
use Rattle.fact.specs.TwoRuns.{Claims}
use Rattle.fact.proofs.Claims.{claims_always, claims_open}
use Rattle.fact.proofs.Certificate.{two_runs_claimed}
use Rattle.call.specs.Call.{Answer, lent, left}
use Rattle.certificate.specs.Promise.{Certifies}
use Rattle.machine.specs.Promise.{Benches}
use Rattle.machine.proofs.Satisfied.{value_written}
use Rattle.guarantee.specs.declared.Answers.{Answers}
use Rattle.guarantee.specs.TwoRuns.{AlikeStimuli, ClaimHolds, ClaimsHold}
use Rattle.guarantee.specs.Guarantee.{Guarantees}
use Rattle.guarantee.proofs.Alike.{lists_alike}
use Rattle.guarantee.proofs.Certified.{certified_inside, facts_certified}

-- what the fact in a certificate's bytes claims of two numbers, by byte 0 and bytes 4-7
claim_holds : (cells values values' : List ℕ) (v : ℕ) → Claims (fact_at cells v) (get_or values v 0) (get_or values' v 0)
    → ClaimHolds cells values values' v
claim_holds cells values values' v h =
    record {
      same = ⊎_elim (λ e. (always e).0 ∙ sym (always e).1) (λ e. claims_open (rw e at h));
      number = always;
    }
  where
    always : get_or cells (v * 8) 0 ≡ 1
        → (get_or values v 0 ≡ u32_at cells (v * 8 + 4)) × (get_or values' v 0 ≡ u32_at cells (v * 8 + 4))
    always e = claims_always (rw e at h)

-- two accepted bench calls on a table without a loop, on lists that are alike: what bytes that hold its certificate's
-- facts claim holds of the numbers that they write
module _ (t cells : List ℕ) (inside : Inside (circuit t (length t / 16))) (no_loop : NoLoop (circuit t (length t / 16)))
    (own : (v : ℕ) → v < length (circuit t (length t / 16))
    → fact_at cells v ≡ definition.certificate (circuit t (length t / 16)) v) where
  abbrev n : ℕ
  n = length t / 16

  abbrev c : Circuit
  c = circuit t n

  pub facts_guaranteed : {s₁ values₁ scratch₁ values₁' scratch₁' s₂ values₂ scratch₂ values₂' scratch₂' : List ℕ}
      → Benches s₁ (lent t values₁ scratch₁) (left values₁' scratch₁') (Ok tt)
      → Benches s₂ (lent t values₂ scratch₂) (left values₂' scratch₂') (Ok tt)
      → AlikeStimuli t s₁ s₂ → ClaimsHold t cells values₁' values₂'
  facts_guaranteed {s₁} {values₁' = values₁'} {s₂ = s₂} {values₂' = values₂'} q q' a v below =
      let variable : v < length c = omega (arith, circuit_length t n) in
      claim_holds cells values₁' values₂' v
      (rw (own v variable, value_written s₁ _ _ q v below, value_written s₂ _ _ q' v below)
      (two_runs_claimed c inside no_loop (stimuli s₁) (stimuli s₂)
      (stimuli_accepted c s₁ q.later) (stimuli_accepted c s₂ q'.later)
      (lists_alike t s₁ s₂ n q.later a) v variable))

module _ (t certificate scratch certificate' scratch' : List ℕ)
    (values₁ scratch₁ values₁' scratch₁' s₁ values₂ scratch₂ values₂' scratch₂' s₂ : List ℕ) where
  abbrev Certifying : Answer → Type 0
  Certifying = Certifies (lent t certificate scratch) (left certificate' scratch')

  abbrev First : Result Unit Refusal → Type 0
  First = Benches s₁ (lent t values₁ scratch₁) (left values₁' scratch₁')

  abbrev Second : Result Unit Refusal → Type 0
  Second = Benches s₂ (lent t values₂ scratch₂) (left values₂' scratch₂')

  pub two_runs_guaranteed : {k : ℕ} → Certifying (Ok k) → First (Ok tt) → Second (Ok tt)
      → AlikeStimuli t s₁ s₂ → ClaimsHold t certificate' values₁' values₂'
  two_runs_guaranteed p q q' a =
      facts_guaranteed t certificate' (certified_inside p) p.past.no_loop (facts_certified p) q q' a

  pub calls_guaranteed : (r : Answers) → Certifying r.certified → First r.first → Second r.second
      → Guarantees (lent t certificate scratch) (left certificate' scratch') s₁ (lent t values₁ scratch₁)
      (left values₁' scratch₁') s₂ (lent t values₂ scratch₂) (left values₂' scratch₂') r
  calls_guaranteed r p q q' =
      record {
        certifies = p;
        benches_first = q;
        benches_second = q';
        claims = λ ((k, e), e₁, e₂) a. two_runs_guaranteed
            (subst Certifying e p) (subst First e₁ q) (subst Second e₂ q') a;
      }

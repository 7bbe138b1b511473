-- What is promised of a certifying call and two bench calls on one table: the promise of each, and demand 3 of what
-- they write.
-- Assumes nothing.
use Rattle.std.specs.Prelude.{◌≡◌, List, ℕ, Ok}
use Rattle.call.specs.Call.{Lent, Left, output_of}
use Rattle.certificate.specs.Promise.{Certifies}
use Rattle.machine.specs.Promise.{Benches}
use Rattle.guarantee.specs.declared.Answers.{Answers}
use Rattle.guarantee.specs.TwoRuns.{AlikeStimuli, ClaimsHold}

-- the table is certified, and both lists have run
abbrev pub AllAccepted : Answers → Type 0
AllAccepted r =
    ((k : ℕ) × (r.certified ≡ Ok k))
    × (r.first ≡ Ok tt)
    × (r.second ≡ Ok tt)

-- over what is lent to the certifying call and what it leaves, and the list and the same of each bench call
pub record Guarantees (l : Lent) (e : Left) (s : List ℕ) (l₁ : Lent) (e₁ : Left) (s' : List ℕ) (l₂ : Lent) (e₂ : Left)
    (r : Answers) : Type 0 where
  pub certifies : Certifies l e r.certified
  pub benches_first : Benches s l₁ e₁ r.first
  pub benches_second : Benches s' l₂ e₂ r.second
  pub claims : AllAccepted r → AlikeStimuli l.table s s'
      → ClaimsHold l.table (output_of e.outputs) (output_of e₁.outputs) (output_of e₂.outputs)

-- Demand 1's fixed contents: two promises of a call on what is lent alike have equal answers and leave equal buffers,
-- but for which loop is shown.
-- Assumes nothing.
use mathlib.Core.Path.{◌≡◌, refl, sym, ap, ap₂, ◌∙◌}
use mathlib.Core.Logic.{◌⊎◌, inl, inr}
use mathlib.Core.List.{List}
use Prim.Native.Nat.{ℕ}
use lib.ListN.{length}
use Rattle.circuit.specs.declared.refusal.Ground.{Ground}
use Rattle.std.specs.Prelude.{Ok, Err}
use Rattle.circuit.specs.Refusal.{ground_number, Check, passed, Finds}
use Rattle.circuit.proofs.Places.{ground_told}
use Rattle.call.specs.Call.{Lent, Left, Answer, accepted, refused, Call, checked, scratch_with, LoopShown, Promises}

pub passed_refused : {X : Type 0} (check : Check) (number place : ℕ) → check ≡ passed → Finds check number place → X
passed_refused check number place p q = absurd (rw p at q)

-- a check finds one number, at one place
pub found_once : (check : Check) (n m i j : ℕ) → Finds check n i → Finds check m j → (n ≡ m) × (i ≡ j)
found_once (Ok u) n m i j p q = absurd p
found_once (Err r) n m i j p q = (sym p.0 ∙ q.0, sym p.1 ∙ q.1)

refusal_unique : (check : Check) (g h : Ground) (i j : ℕ) → Finds check (ground_number g) i
    → Finds check (ground_number h) j → refused g i ≡ refused h j
refusal_unique check g h i j p q =
    let (number, place) = found_once check _ _ i j p q in ap₂ refused (ground_told g h number) place

same_left : {e e' : Left} → e.outputs ≡ e'.outputs → e.scratch ≡ e'.scratch → e ≡ e'
same_left p q = ap₂ (λ (o : List (List ℕ)) (s : List ℕ). record { outputs = o; scratch = s }) p q

-- both answers are ground 11: the outputs are equal, and equal rows give equal places and scratch
pub record BothLoops (call : Call) (l : Lent) (e e' : Left) (a a' : Answer) : Type 0 where
  pub reason : Ground
  pub ground' : Ground
  pub place : ℕ
  pub place' : ℕ
  pub answers : (a ≡ refused reason place) × (a' ≡ refused ground' place')
  pub numbers : (ground_number reason ≡ 11) × (ground_number ground' ≡ 11)
  pub first : LoopShown call l e place
  pub second : LoopShown call l e' place'
  pub outputs : e.outputs ≡ e'.outputs
  pub alike : first.row ≡ second.row → (place ≡ place') × (e.scratch ≡ e'.scratch)

module _ (call : Call) (l : Lent)
    (determined : (o o' : List (List ℕ)) (k k' : ℕ) → call.Accepts l o k → call.Accepts l o' k'
    → (k ≡ k') × (o ≡ o')) where
  pub contents_fixed : (e e' : Left) (a a' : Answer) → Promises call l e a → Promises call l e' a'
      → ((a ≡ a') × (e ≡ e')) ⊎ BothLoops call l e e' a a'
  contents_fixed e e' (Ok k) (Ok k') p q =
      let (same, outputs) = determined e.outputs e'.outputs k k' p.accepts q.accepts in
      inl (ap accepted same, same_left outputs (p.past.scratch ∙ sym q.past.scratch))
  contents_fixed e e' (Ok k) (Err r) p (inl q) =
      passed_refused (checked call l) _ _ p.past.passed q.first
  contents_fixed e e' (Ok k) (Err r) p (inr (inl (_, q))) = absurd (p.past.no_loop q.row q.loop)
  contents_fixed e e' (Ok k) (Err r) p (inr (inr q)) =
      passed_refused (call.later l) _ _ p.later q.first
  contents_fixed e e' (Err r) (Ok k) (inl p) q =
      passed_refused (checked call l) _ _ q.past.passed p.first
  contents_fixed e e' (Err r) (Ok k) (inr (inl (_, p))) q = absurd (q.past.no_loop p.row p.loop)
  contents_fixed e e' (Err r) (Ok k) (inr (inr p)) q =
      passed_refused (call.later l) _ _ q.later p.first
  contents_fixed e e' (Err r) (Err r') (inl p) (inl q) =
      inl (
        refusal_unique (checked call l) r.reason r'.reason r.place r'.place p.first q.first,
        same_left (p.outputs ∙ sym q.outputs) (p.scratch ∙ sym q.scratch),
      )
  contents_fixed e e' (Err r) (Err r') (inl p) (inr (inl (_, q))) =
      passed_refused (checked call l) _ _ q.passed p.first
  contents_fixed e e' (Err r) (Err r') (inl p) (inr (inr q)) =
      passed_refused (checked call l) _ _ q.past.passed p.first
  contents_fixed e e' (Err r) (Err r') (inr (inl (_, p))) (inl q) =
      passed_refused (checked call l) _ _ p.passed q.first
  contents_fixed e e' (Err r) (Err r') (inr (inl (is, p))) (inr (inl (is', q))) =
      inr (record {
        reason = r.reason;
        ground' = r'.reason;
        place = r.place;
        place' = r'.place;
        answers = (refl, refl);
        numbers = (is, is');
        first = p;
        second = q;
        outputs = p.outputs ∙ sym q.outputs;
        alike = λ same. (
          sym p.row_length ∙ ap length same ∙ q.row_length,
          p.scratch ∙ ap (scratch_with call l) same ∙ sym q.scratch,
        );
      })
  contents_fixed e e' (Err r) (Err r') (inr (inl (_, p))) (inr (inr q)) =
      absurd (q.past.no_loop p.row p.loop)
  contents_fixed e e' (Err r) (Err r') (inr (inr p)) (inl q) =
      passed_refused (checked call l) _ _ p.past.passed q.first
  contents_fixed e e' (Err r) (Err r') (inr (inr p)) (inr (inl (_, q))) =
      absurd (p.past.no_loop q.row q.loop)
  contents_fixed e e' (Err r) (Err r') (inr (inr p)) (inr (inr q)) =
      inl (
        refusal_unique (call.later l) r.reason r'.reason r.place r'.place p.first q.first,
        same_left (p.outputs ∙ sym q.outputs) (p.past.scratch ∙ sym q.past.scratch),
      )

-- From what the parts of the bench call give to its promise; and that the promise fixes the values.
-- Assumes nothing.
use mathlib.Core.Path.{◌≡◌, refl, sym, ap, ◌∙◌}
use mathlib.Core.Logic.{◌⊎◌, inr, ⊎_map}
use mathlib.Core.List.{List, [], ◌∷◌, ◌++◌}
use Prim.Native.Nat.{ℕ}
use native.Mathlib.Omega.{arith}
use lib.ListN.{drop, replicate}
use Rattle.buffer.specs.Store.{numbers}
use Rattle.buffer.proofs.Store.{numbers_whole}
use Rattle.circuit.specs.Refusal.{passed}
use Rattle.std.specs.Prelude.{Ok, Err}
use Rattle.circuit.proofs.Places.{refused_finds}
use Rattle.schedule.specs.Schedule.{IsOrder}
use Rattle.engine.specs.Ready.{Ready}
use Rattle.engine.proofs.Standing.{ordered_ready}
use Rattle.call.specs.Call.{Lent, Left, lent, left, size, circuit_of, checked, part}
use Rattle.call.proofs.Parts.{table_checked, outputs_lent, past_eleven}
use Rattle.call.proofs.Contents.{BothLoops, contents_fixed}
use Rattle.std.specs.Prelude.{Result}
use Rattle.circuit.specs.declared.refusal.Refusal.{Refusal}
use Rattle.std.specs.Prelude.{Ok, Err}
use Rattle.machine.specs.Answer.{ListAnswered}
use Rattle.machine.specs.Promise.{room, Ran, benching, answer_of, Benches}

module _ (s t values scratch : List ℕ) (ok : checked (benching s) (lent t values scratch) ≡ passed) where
  abbrev l : Lent
  l = lent t values scratch

  module _ {ordered : List ℕ} {wires registers : ℕ}
      (o : IsOrder (circuit_of l) (part (benching s) l) scratch ordered wires registers) where
    -- the schedule leaves what pokes and ticks work with
    pub ready : Ready numbers room t (size l) ordered wires registers values
    ready =
        ordered_ready (record { table = table_checked (benching s) l ok; lent = (outputs_lent (benching s) l ok).0 })
        (omega arith) o

    -- what the list leaves in the values, with the scratch part cleared, is what the call promises
    pub answered : (values' scratch' : List ℕ) (r : Result Unit Refusal) → ListAnswered (circuit_of l) (size l) s values values' r
        → scratch' ≡ replicate (part (benching s) l) 0 ++ drop (part (benching s) l) ordered
        → Benches s l (left values' scratch') r
    answered values' scratch' (Ok u) (ok-list, holds) cleared =
        record {
          past = past_eleven (benching s) l ok (omega arith) o cleared;
          later = ok-list;
          accepts = record {
            no_number = refl;
            values =
                ap (λ (numbers : List ℕ). numbers ∷ [])
                (numbers_whole (omega (arith, (outputs_lent (benching s) l ok).0)) holds);
          };
        }
    answered values' scratch' (Err r) (first, same) cleared =
        inr (inr (record {
          past = past_eleven (benching s) l ok (omega arith) o cleared;
          first = refused_finds first;
          outputs = ap (λ (numbers : List ℕ). numbers ∷ []) same;
        }))

-- two runs of a list on what is lent leave the same
ran_determined : (s : List ℕ) (l : Lent) (o o' : List (List ℕ)) (k k' : ℕ) → Ran s l o k → Ran s l o' k'
    → (k ≡ k') × (o ≡ o')
ran_determined s l o o' k k' p q = (p.no_number ∙ sym q.no_number, p.values ∙ sym q.values)

-- an answer is told by what every call has of it
pub answer_told : (r r' : Result Unit Refusal) → answer_of r ≡ answer_of r' → r ≡ r'
answer_told (Ok u) (Ok u') e = refl
answer_told (Ok u) (Err r) e = let z : ◌≡◌ {A = ℕ} 0 1 = cc in absurd (omega arith)
answer_told (Err r) (Ok u) e = let z : ◌≡◌ {A = ℕ} 0 1 = cc in absurd (omega arith)
answer_told (Err r) (Err r') e = ap Err (cc)

-- demand 1: two calls on what is lent alike, with the same list, answer alike and leave the same, but for which loop is
-- shown
pub bench_fixed : (s : List ℕ) (l : Lent) (e e' : Left) (r r' : Result Unit Refusal) → Benches s l e r → Benches s l e' r'
    → ((r ≡ r') × (e ≡ e')) ⊎ BothLoops (benching s) l e e' (answer_of r) (answer_of r')
bench_fixed s l e e' r r' p q =
    ⊎_map (λ (a, b). (answer_told r r' a, b)) (λ loops. loops)
    (contents_fixed (benching s) l (ran_determined s l) e e' (answer_of r) (answer_of r') p q)

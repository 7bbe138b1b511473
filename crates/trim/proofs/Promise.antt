-- From what the parts of the trimming call give to its promise; and that the promise fixes both outputs.
-- Assumes nothing.
use mathlib.Core.Path.{◌≡◌, refl, sym, ap, ap₂, ◌∙◌}
use mathlib.Core.Logic.{◌⊎◌, inr}
use mathlib.Core.List.{List, [], ◌∷◌, ◌++◌, flat_map}
use Prim.Native.Nat.{ℕ, ◌-◌, ◌*◌, ◌≤◌}
use native.Mathlib.Omega.{arith}
use lib.ListN.{length, drop, replicate, length-replicate}
use lib.Seq.{drop_at}
use Rattle.std.specs.Prelude.{Err}
use Rattle.buffer.specs.Kept.{Filled}
use Rattle.buffer.proofs.Filled.{outside_none, part_cleared}
use Rattle.circuit.specs.declared.refusal.Refusal.{Refusal}
use Rattle.circuit.specs.Refusal.{passed}
use Rattle.circuit.specs.Reading.{record_bytes}
use Rattle.circuit.proofs.Places.{refused_finds}
use Rattle.circuit.proofs.Tables.{circuit_length}
use Rattle.fact.specs.Fact.{fact_at}
use Rattle.schedule.specs.Schedule.{IsOrder}
use Rattle.schedule.proofs.Orders.{order_room}
use Rattle.call.specs.Call.{Lent, Left, Answer, accepted, output_of, size, circuit_of, checked, part}
use Rattle.call.specs.Call.{PastEleven, Promises}
use Rattle.call.proofs.Parts.{past_eleven}
use Rattle.call.proofs.Contents.{BothLoops, contents_fixed}
use Rattle.trim.specs.Trimmed.{survivors, trimmed}
use Rattle.trim.specs.Promise.{lent, left, second_of, called, Trims, trimming, CallTrims}
use Rattle.trim.proofs.Replaced.{replaced_length}
use Rattle.trim.proofs.Survivors.{survivors_few}

module _ (certificate kept t first second scratch : List ℕ)
    (ok : checked (trimming certificate kept) (lent t first second scratch) ≡ passed) where
  abbrev l : Lent
  l = lent t first second scratch

  abbrev lent_part : ℕ
  lent_part = part (trimming certificate kept) l

  module _ {ordered zeros : List ℕ} {wires registers : ℕ}
      (o : IsOrder (circuit_of l) lent_part scratch ordered wires registers)
      (filled : Filled 0 (lent_part - 0) (λ _. 0) ordered zeros) where
    cleared : zeros ≡ replicate lent_part 0 ++ drop lent_part ordered
    cleared =
        part_cleared 0 0 lent_part ordered ordered zeros (outside_none 0 0 ordered) (omega arith)
        (order_room o (omega (arith, o.fits, circuit_length t (size l)))) filled

    past : {e : Left} → e.scratch ≡ zeros → PastEleven (trimming certificate kept) l e
    past e = past_eleven (trimming certificate kept) l ok (omega arith) o (e ∙ cleared)

    -- a refusal on one of grounds 20 to 22, of a call that has cleared the order away
    pub refused_later : {r : Refusal} → (trimming certificate kept).later l ≡ Err r
        → CallTrims certificate kept l (left first second zeros) (Err r)
    refused_later e = inr (inr (record { past = past refl; first = refused_finds e; outputs = refl }))

    -- what an accepted table leaves
    pub trims : {first' second' scratch' : List ℕ} {k : ℕ} → (trimming certificate kept).later l ≡ passed
        → k ≡ length (survivors (called certificate kept l) kept)
        → first' ≡ flat_map record_bytes (trimmed (called certificate kept l) kept) ++ drop (k * 16) first
        → second' ≡ survivors (called certificate kept l) kept ++ drop k second
        → scratch' ≡ replicate lent_part 0 ++ drop lent_part zeros
        → CallTrims certificate kept l (left first' second' scratch') (accepted k)
    trims later count records olds again =
        record {
          past =
              past (again ∙ ap (λ (rest : List ℕ). replicate lent_part 0 ++ rest)
              (ap (drop lent_part) cleared
              ∙ drop_at (replicate lent_part 0) (drop lent_part ordered) lent_part (length-replicate lent_part 0))
              ∙ sym cleared);
          later = later;
          accepts = record { count = count; written = ap₂ (λ (a b : List ℕ). a ∷ b ∷ []) records olds };
        }

-- an accepted call writes at most as many records as the table has
pub accepted_few : (certificate kept : List ℕ) (l : Lent) {e : Left} {k : ℕ}
    → Promises (trimming certificate kept) l e (accepted k) → k ≤ size l
accepted_few certificate kept l p =
    omega (
      arith,
      p.accepts.count,
      survivors_few (called certificate kept l) kept,
      replaced_length (circuit_of l) (fact_at certificate),
      circuit_length l.table (size l),
    )

-- two accepted calls on what is lent alike carry the same number and leave the same
trims_determined : (certificate kept : List ℕ) (l : Lent) (o o' : List (List ℕ)) (k k' : ℕ)
    → Trims certificate kept l o k → Trims certificate kept l o' k' → (k ≡ k') × (o ≡ o')
trims_determined certificate kept l o o' k k' p q =
    let e : k ≡ k' = p.count ∙ sym q.count in (
      e,
      p.written
          ∙ ap (λ (j : ℕ). (flat_map record_bytes (trimmed (called certificate kept l) kept)
          ++ drop (j * 16) (output_of l.outputs))
          ∷ (survivors (called certificate kept l) kept ++ drop j (second_of l.outputs)) ∷ []) e
          ∙ sym q.written,
    )

-- demand 1: two calls on what is lent alike answer alike and leave the same, but for which loop is shown
pub trim_fixed : (certificate kept : List ℕ) (l : Lent) (e e' : Left) (r r' : Answer)
    → CallTrims certificate kept l e r → CallTrims certificate kept l e' r'
    → ((r ≡ r') × (e ≡ e')) ⊎ BothLoops (trimming certificate kept) l e e' r r'
trim_fixed certificate kept l = contents_fixed (trimming certificate kept) l (trims_determined certificate kept l)

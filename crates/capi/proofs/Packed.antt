-- The packed number tells the answer, and the calls' answers fit it.
-- Assumes nothing.
use mathlib.Core.Path.{◌≡◌, refl, ap, ap₂}
use mathlib.Core.Logic.{inl, inr, ⊎_elim}
use mathlib.Core.List.{List, []}
use Prim.Native.Nat.{ℕ, ◌^◌, ◌<◌, ◌≤◌}
use native.Mathlib.Omega.{arith}
use lib.ListN.{length}
use Rattle.net.proofs.Sums.{registers_few}
use Rattle.circuit.specs.declared.refusal.Ground.{Ground}
use Rattle.circuit.specs.Refusal.{ground_number}
use Rattle.circuit.specs.Circuit.{graph}
use Rattle.circuit.specs.Stimuli.{check_stimuli}
use Rattle.circuit.proofs.Places.{Refusals, refusal_found, refusals_weaken, ground_range, ground_told}
use Rattle.circuit.proofs.Places.{call_refusals, stimuli_refusals}
use Rattle.circuit.proofs.Tables.{circuit_length}
use Rattle.fact.specs.Certificate.{registers}
use Rattle.std.specs.Prelude.{Ok, Err}
use Rattle.call.specs.Call.{Lent, Left, Answer, accepted, refused, Call, output_of, size, circuit_of, checked}
use Rattle.call.specs.Call.{AcceptedWith, Promises}
use Rattle.call.proofs.Parts.{table_checked}
use Rattle.call.proofs.Answers.{row_most, refusal_holds}
use Rattle.certificate.specs.Promise.{certifying}
use Rattle.machine.specs.Promise.{benching}
use Rattle.bill.specs.Promise.{Bills}
use Rattle.bill.proofs.Promise.{accepted_small, refused_small}
use Rattle.trim.specs.Promise.{second_of, trimming}
use Rattle.trim.proofs.Places.{OfTrim, trim_refusals}
use Rattle.trim.proofs.Promise.{accepted_few}
use Rattle.path.specs.Promise.{check_marked, tracing}
use Rattle.path.proofs.Promise.{path_refusals, path_short}
use Rattle.capi.specs.Packed.{packed, Low, cut}

-- two answers with the same number are the same
pub packed_told : (a a' : Answer) → Low a → Low a' → packed a ≡ packed a' → a ≡ a'
packed_told (Ok j) (Ok k) l l' e = ap accepted e
packed_told (Ok j) (Err r) l l' e = absurd (omega (arith, (ground_range r.reason).0))
packed_told (Err r) (Ok k) l l' e = absurd (omega (arith, (ground_range r.reason).0))
packed_told (Err r) (Err r') l l' e =
    let same : ground_number r.reason ≡ ground_number r'.reason = omega (arith, ground_range r.reason) in
    ap₂ refused (ground_told r.reason r'.reason same) (omega arith)

-- an answer fits where the number that it carries does, and the places of what is refused late
answer_low : (call : Call) (l : Lent) (e : Left) → ((k : ℕ) → AcceptedWith call l e k → k < 2 ^ 32)
    → Refusals (λ g place. place < 2 ^ 32) (call.later l) → (a : Answer) → Promises call l e a → Low a
answer_low call l e number later (Ok k) p = number k p
answer_low call l e number later (Err r) p =
    refusal_holds call l e (λ h i. i < 2 ^ 32) (λ h i _ most. omega arith)
    (λ h i _ shown. omega (arith, row_most call l e shown)) later r.reason r.place p

pub certified_low : (l : Lent) (e : Left) (a : Answer) → Promises certifying l e a → Low a
unfolding registers
certified_low l e =
    answer_low certifying l e
    (λ k p. omega (
      arith,
      p.accepts.few,
      registers_few (graph (circuit_of l)),
      circuit_length l.table (size l),
      (table_checked certifying l p.past.passed).small,
    ))
    tt

pub benched_low : (s : List ℕ) (l : Lent) (e : Left) (a : Answer) → Promises (benching s) l e a → Low a
benched_low s l e =
    answer_low (benching s) l e (λ k p. omega (arith, p.accepts.no_number))
    (refusals_weaken (λ g place. (12 ≤ ground_number g) × (place ≤ 4096)) (λ g place. place < 2 ^ 32)
    (check_stimuli (circuit_of l) s) (λ g place h. omega (arith, h.1)) (stimuli_refusals (circuit_of l) s))

-- the place of ground 23 is the variable given
pub traced_low : (v : ℕ) (l : Lent) (e : Left) → v < 2 ^ 32 → (a : Answer) → Promises (tracing v) l e a → Low a
traced_low v l e small =
    answer_low (tracing v) l e (λ k p. omega (arith, path_short p))
    (refusals_weaken (λ g place. (ground_number g ≡ 23) × (place ≡ v)) (λ g place. place < 2 ^ 32)
    (check_marked (circuit_of l) v) (λ g place h. omega (arith, h.1)) (path_refusals v l))

pub billed_low : (sizes entry exit : List ℕ) (a : Answer) → Bills sizes entry exit a → Low a
billed_low sizes entry exit (Ok k) p = (accepted_small p).2
billed_low sizes entry exit (Err r) p = omega (arith, (refused_small p).1)

module _ (certificate kept : List ℕ) (l : Lent) (e : Left) where
  -- a trimmed table has no more records than the table
  records_low : (k : ℕ) → AcceptedWith (trimming certificate kept) l e k → k < 2 ^ 32
  records_low k p =
      omega (
        arith,
        accepted_few certificate kept l p,
        (table_checked (trimming certificate kept) l p.past.passed).small,
      )

  pub trimmed_low : (a : Answer) → Promises (trimming certificate kept) l e a → Low (cut a)
  trimmed_low (Ok k) p = records_low k p
  trimmed_low (Err r) p = omega arith

  -- where no more than 2^32 variables are kept, every place is below 2^32
  place_low : length kept ≤ 2 ^ 32 → (g : Ground) (place : ℕ)
      → Promises (trimming certificate kept) l e (refused g place) → place < 2 ^ 32
  place_low few g place (inr (inr p)) =
      let small = (table_checked (trimming certificate kept) l p.past.passed).small in
      ⊎_elim (λ h. omega (arith, h.1)) (λ h. omega (arith, h.2, circuit_length l.table (size l)))
      (refusal_found (OfTrim (length kept) (length (circuit_of l))) ((trimming certificate kept).later l) g place
      (trim_refusals (length l.table) (circuit_of l) certificate kept (length (output_of l.outputs))
      (length (second_of l.outputs))) p.first)
  place_low few g place (inr (inl (is, p))) = omega (arith, row_most (trimming certificate kept) l e p)
  place_low few g place (inl p) =
      omega (
        arith,
        (refusal_found (λ h i. (ground_number h ≤ 10) × (i ≤ 4096)) (checked (trimming certificate kept) l) g place
            (call_refusals l.table [] _) p.first).1,
      )

  -- so none is cut, and the number tells the answer
  pub trimmed_whole : length kept ≤ 2 ^ 32 → (a : Answer) → Promises (trimming certificate kept) l e a → cut a ≡ a
  trimmed_whole few (Ok k) p = refl
  trimmed_whole few (Err r) p = ap (refused r.reason) (omega (arith, place_low few r.reason r.place p))

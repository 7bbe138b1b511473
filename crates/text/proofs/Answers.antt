-- What an answer shows stands in the buffers that the call leaves, and when a refusal has a second line.
-- Assumes nothing.
use mathlib.Core.Path.{◌≡◌, ap}
use mathlib.Core.Logic.{⊎_elim}
use mathlib.Core.List.{List, ◌++◌}
use Prim.Native.Nat.{ℕ, ◌*◌, ◌/◌, ◌≤◌}
use native.Mathlib.Omega.{arith}
use borrow.Author.Tests.{eq-eqb, ne_eqb}
use lib.ListN.{length, drop, length-append}
use Rattle.circuit.specs.declared.refusal.Ground.{Ground}
use Rattle.circuit.specs.Refusal.{passed}
use Rattle.circuit.specs.Refusal.{ground_number}
use Rattle.circuit.specs.Stimuli.{check_stimuli}
use Rattle.circuit.proofs.Places.{Refusals, refusals_weaken, stimuli_refusals}
use Rattle.call.specs.Call.{Lent, Left, Answer, refused, Call}
use Rattle.call.specs.Call.{lent, left, output_of, size, circuit_of, checked, Promises}
use Rattle.call.proofs.Parts.{table_checked, outputs_lent}
use Rattle.call.proofs.Answers.{row_some, row_most, row_in_scratch, refusal_holds}
use Rattle.certificate.specs.Promise as certified
use Rattle.machine.specs.Promise as benched
use Rattle.bill.specs.Promise.{Bills}
use Rattle.bill.proofs.Promise.{accepted_small, refused_small}
use Rattle.trim.specs.Promise as trims
use Rattle.trim.proofs.Grounds.{trimmable}
use Rattle.trim.proofs.Promise.{accepted_few}
use Rattle.path.specs.Promise as traced
use Rattle.path.proofs.Promise.{path_refusals, path_short, path_some}
use Rattle.text.specs.Text.{refusal_line, row_line, refusal_text}
use Rattle.text.specs.Prints.{ShowsRow, AnswerStands, PathStands, BillStands}
use Rattle.std.specs.Prelude.{Result, Ok, Err}
use Rattle.text.specs.Reports.{Within, written_bytes}

module _ (g : Ground) (place : ℕ) (s : List ℕ) where
  pub loop_text : ground_number g ≡ 11 → refusal_text g place s ≡ refusal_line g place ++ row_line s place
  unfolding refusal_text
  loop_text e = rw (eq-eqb (ground_number g) 11 e, refusal_text)

  pub other_text : (ground_number g ≡ 11 → ⊥) → refusal_text g place s ≡ refusal_line g place
  unfolding refusal_text
  other_text ne = rw (ne_eqb (ground_number g) 11 ne, refusal_text)

-- what an answer shows stands in what the call leaves, where no ground that is tried late is 11
module _ (call : Call) (l : Lent) (e : Left) (later : Refusals (λ g place. 12 ≤ ground_number g) (call.later l)) where
  row_stands : (g : Ground) (place : ℕ) → Promises call l e (refused g place) → ShowsRow g place (length e.scratch)
  row_stands =
      refusal_holds call l e (λ g place. ShowsRow g place (length e.scratch))
      (λ g place few _ is. absurd (omega arith))
      (λ g place is p _. (row_some call l e p, row_in_scratch call l e p, row_most call l e p))
      (refusals_weaken (λ g place. 12 ≤ ground_number g) (λ g place. ShowsRow g place (length e.scratch))
      (call.later l) (λ g place late is. absurd (omega arith)) later)

  pub answer_stands : (each : ℕ) (a : Answer) → Promises call l e a
      → (checked call l ≡ passed → size l * each ≤ length (output_of e.outputs))
      → AnswerStands each a (size l) (length (output_of e.outputs)) (length e.scratch)
  answer_stands each (Ok k) p lent =
      ((table_checked call l p.past.passed).small, lent p.past.passed)
  answer_stands each (Err r) p lent = row_stands r.reason r.place p

pub certified_stands : (t cells scratch cells' scratch' : List ℕ) → length cells' ≡ length cells → (a : Answer)
    → Promises certified.certifying (lent t cells scratch) (left cells' scratch') a
    → AnswerStands certified.each a (length t / 16) (length cells') (length scratch')
certified_stands t cells scratch cells' scratch' long a p =
    answer_stands certified.certifying (lent t cells scratch) (left cells' scratch') tt certified.each a p
    (λ ok. omega (arith, (outputs_lent certified.certifying (lent t cells scratch) ok).0))

pub benched_stands : (s t values scratch values' scratch' : List ℕ) → length values' ≡ length values → (a : Answer)
    → Promises (benched.benching s) (lent t values scratch) (left values' scratch') a
    → AnswerStands benched.each a (length t / 16) (length values') (length scratch')
benched_stands s t values scratch values' scratch' long a p =
    answer_stands (benched.benching s) (lent t values scratch) (left values' scratch')
    (refusals_weaken (λ g place. (12 ≤ ground_number g) × (place ≤ 4096)) (λ g place. 12 ≤ ground_number g)
    (check_stimuli (circuit_of (lent t values scratch)) s) (λ g place h. h.0)
    (stimuli_refusals (circuit_of (lent t values scratch)) s)) benched.each a p
    (λ ok. omega (arith, (outputs_lent (benched.benching s) (lent t values scratch) ok).0))

-- an accepted path has some variables, at most 4,096, and they stand in the row
pub traced_stands : (v : ℕ) (t row scratch row' scratch' : List ℕ) (a : Answer)
    → Promises (traced.tracing v) (lent t row scratch) (left row' scratch') a
    → PathStands a (length row') (length scratch')
traced_stands v t row scratch row' scratch' (Ok k) p =
    let found = p.accepts in (
      path_some p,
      omega (
        arith,
        found.row_length,
        ap (λ (outputs : List (List ℕ)). length (output_of outputs)) found.written,
        length-append found.row (drop k row),
      ),
      path_short p,
    )
traced_stands v t row scratch row' scratch' (Err r) p =
    let l = lent t row scratch in
    row_stands (traced.tracing v) l (left row' scratch')
    (refusals_weaken (λ g place. (ground_number g ≡ 23) × (place ≡ v)) (λ g place. 12 ≤ ground_number g)
    (traced.check_marked (circuit_of l) v) (λ g place h. omega (arith, h.0)) (path_refusals v l)) r.reason r.place p

pub billed_stands : (sizes shares shares' : List ℕ) → length shares' ≡ length shares → (a : Answer)
    → Bills sizes shares shares' a → BillStands a (length sizes) (length shares')
billed_stands sizes shares shares' long (Ok k) p =
    let (few, room, _) = accepted_small p in (few, omega arith)
billed_stands sizes shares shares' long (Err r) p =
    λ is. ⊎_elim (λ e. omega arith) (λ e. omega arith) (refused_small p).0

-- what the trimming call writes stands in both of its outputs, and there are at most 4,096 records
pub trimmed_stands : (certificate kept t trimmed numbers scratch trimmed' numbers' scratch' : List ℕ)
    → length trimmed' ≡ length trimmed → length numbers' ≡ length numbers → (a : Answer)
    → Promises (trims.trimming certificate kept) (trims.lent t trimmed numbers scratch)
    (trims.left trimmed' numbers' scratch') a
    → (written_bytes a ≤ 65536) × (written_bytes a ≤ length trimmed') × (written_bytes a ≤ length numbers' * 16)
trimmed_stands certificate kept t trimmed numbers scratch trimmed' numbers' scratch' long many (Ok k) p =
    let l = trims.lent t trimmed numbers scratch in
    let table = table_checked (trims.trimming certificate kept) l p.past.passed in
    let ready = trimmable t (size l) certificate kept (length trimmed) (length numbers) table p.later in
    let few = accepted_few certificate kept l p in
    (omega (arith, table.small), omega (arith, ready.trimmed_lent), omega (arith, ready.numbers_lent))
trimmed_stands certificate kept t trimmed numbers scratch trimmed' numbers' scratch' long many (Err r) p =
    (omega arith, omega arith, omega arith)

-- what is told stands in longer buffers too
pub within_more : (r : Result ℕ ℕ) (output line longer room : ℕ) → output ≤ longer → line ≤ room → Within r output line
    → Within r longer room
within_more (Ok count) output line longer room h h' within = omega arith
within_more (Err r) output line longer room h h' within = omega arith

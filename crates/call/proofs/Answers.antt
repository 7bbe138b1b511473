-- What a refusal can be: one of grounds 1 to 10 or a loop, at a place of at most 4,096, or one that is tried later. The
-- row of a loop stands in the scratch that the call leaves. The first ground is told: one of 1 to 10 though there is a
-- loop, and a loop whatever is checked later.
-- Assumes nothing.
use mathlib.Core.Path.{◌≡◌, refl, ap}
use mathlib.Core.Logic.{inl, inr}
use mathlib.Core.List.{List, ◌++◌}
use Prim.Native.Nat.{ℕ, ◌-◌, ◌≤◌}
use native.Mathlib.Omega.{arith}
use lib.ListN.{length, drop, replicate, length-append}
use Rattle.net.specs.Loop.{Loop}
use Rattle.net.proofs.Loops.{loop_short}
use Rattle.circuit.specs.declared.refusal.Ground.{Ground}
use Rattle.std.specs.Prelude.{Ok, Err}
use Rattle.circuit.specs.Refusal.{ground_number, passed, Finds}
use Rattle.circuit.specs.Circuit.{graph}
use Rattle.circuit.proofs.Places.{Refusals, refusal_found, call_refusals}
use Rattle.circuit.proofs.Tables.{circuit_length}
use Rattle.call.specs.Call.{Lent, Left, Answer, Call, refused, size, circuit_of, asked, checked, part, LoopShown, Promises}
use Rattle.call.proofs.Parts.{table_checked}
use Rattle.call.proofs.Contents.{passed_refused, found_once}

module _ (call : Call) (l : Lent) (e : Left) where
  pub row_some : {place : ℕ} → LoopShown call l e place → 1 ≤ place
  row_some p = omega (arith, p.loop.some, p.row_length)

  pub row_most : {place : ℕ} → LoopShown call l e place → place ≤ 4096
  row_most p =
      omega (
        arith,
        loop_short p.loop,
        p.row_length,
        circuit_length l.table (size l),
        (table_checked call l p.passed).small,
      )

  pub row_in_scratch : {place : ℕ} → LoopShown call l e place → place ≤ length e.scratch
  row_in_scratch p =
      omega (
        arith,
        p.row_length,
        ap length p.scratch,
        length-append p.row
            (replicate (part call l - length p.row) 0 ++ drop (part call l) l.scratch),
      )

  -- what holds of grounds 1 to 10 at a place of at most 4,096, of a loop that is shown, and of what is refused later,
  -- holds of every refusal
  pub refusal_holds : (P : Ground → ℕ → Type 0)
      → ((g : Ground) (place : ℕ) → ground_number g ≤ 10 → place ≤ 4096 → P g place)
      → ((g : Ground) (place : ℕ) → ground_number g ≡ 11 → LoopShown call l e place → P g place)
      → Refusals P (call.later l)
      → (g : Ground) (place : ℕ) → Promises call l e (refused g place) → P g place
  refusal_holds P early loop later g place (inl p) =
      let (number, most) =
      refusal_found (λ h i. (ground_number h ≤ 10) × (i ≤ 4096)) (checked call l) g place
      (call_refusals l.table (asked call.asks l.outputs) _) p.first in
      early g place number most
  refusal_holds P early loop later g place (inr (inl (is, p))) = loop g place is p
  refusal_holds P early loop later g place (inr (inr p)) = refusal_found P (call.later l) g place later p.first

  -- where one of grounds 1 to 10 is found, the answer is that one, at its place, be there a loop or not
  pub early_told : (number place : ℕ) → Finds (checked call l) number place → (a : Answer) → Promises call l e a
      → (g : Ground) × (a ≡ refused g place) × (ground_number g ≡ number)
  early_told number place found (Ok k) p = passed_refused (checked call l) _ _ p.past.passed found
  early_told number place found (Err r) (inl p) =
      let (n, here) = found_once (checked call l) _ _ _ _ p.first found in (r.reason, ap (refused r.reason) here, n)
  early_told number place found (Err r) (inr (inl (is, p))) =
      passed_refused (checked call l) _ _ p.passed found
  early_told number place found (Err r) (inr (inr p)) =
      passed_refused (checked call l) _ _ p.past.passed found

  -- where none of grounds 1 to 10 holds and there is a loop, the answer is ground 11, whatever is checked later
  pub loop_told : checked call l ≡ passed → (row : List ℕ) → Loop (graph (circuit_of l)) row → (a : Answer)
      → Promises call l e a → (g : Ground) × (place : ℕ) × (a ≡ refused g place) × (ground_number g ≡ 11)
  loop_told ok row loop (Ok k) p = absurd (p.past.no_loop row loop)
  loop_told ok row loop (Err r) (inl p) = passed_refused (checked call l) _ _ ok p.first
  loop_told ok row loop (Err r) (inr (inl (is, p))) = (r.reason, r.place, refl, is)
  loop_told ok row loop (Err r) (inr (inr p)) = absurd (p.past.no_loop row loop)

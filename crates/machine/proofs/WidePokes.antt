-- What ground 16 tells who calls the bench: the input is not tied.
-- Assumes nothing.
use mathlib.Core.Path.{◌≡◌}
use mathlib.Core.Logic.{inl, inr}
use mathlib.Core.List.{List}
use Prim.Native.Nat.{ℕ, ◌≤◌}
use native.Mathlib.Omega.{arith}
use Rattle.circuit.specs.declared.refusal.Ground.{Ground}
use Rattle.circuit.specs.Refusal.{ground_number}
use Rattle.circuit.proofs.Places.{refusal_found, call_refusals}
use Rattle.circuit.proofs.WidePokes.{WidePoke, wide_refusals}
use Rattle.call.specs.Call.{Lent, Left, size, circuit_of, asked, checked}
use Rattle.call.proofs.Parts.{table_checked}
use Rattle.std.specs.Prelude.{Err}
use Rattle.machine.specs.Promise.{benching, Benches}

-- a bench call is refused on ground 16 only where the stimulus at the place pokes a free or a secret input with a value
-- that does not fit it
pub wide_refused : (s : List ℕ) (l : Lent) (e : Left) (g : Ground) (place : ℕ) → ground_number g ≡ 16
    → Benches s l e (Err (record { reason = g; place = place })) → WidePoke (circuit_of l) s place
wide_refused s l e g place is (inl p) =
    let early =
    refusal_found (λ h i. (ground_number h ≤ 10) × (i ≤ 4096)) (checked (benching s) l) g place
    (call_refusals l.table (asked (benching s).asks l.outputs) _) p.first in
    absurd (omega (arith, early.0))
wide_refused s l e g place is (inr (inl (loop, p))) = absurd (omega arith)
wide_refused s l e g place is (inr (inr p)) =
    refusal_found (λ h i. ground_number h ≡ 16 → WidePoke (circuit_of l) s i) ((benching s).later l) g place
    (wide_refusals l.table (size l) (table_checked (benching s) l p.past.passed).valid s) p.first is

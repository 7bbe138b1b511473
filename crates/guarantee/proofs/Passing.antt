-- A call that meets no ground is accepted: a bench call and a certifying call on a table of which none of grounds 1, 2
-- and 5 to 11 holds, where as much is lent as is asked.
-- Assumes nothing.
use mathlib.Core.Path.{◌≡◌, refl}
use mathlib.Core.Logic.{inl, inr}
use mathlib.Core.List.{List, [], ◌∷◌}
use Prim.Native.Nat.{ℕ, ◌*◌, ◌/◌, ◌≤◌}
use native.Mathlib.Omega.{arith}
use borrow.Author.Tests.{le-ltb}
use lib.ListN.{length}
use Rattle.std.specs.Prelude.{Result, Ok, Err}
use Rattle.circuit.specs.declared.refusal.Refusal.{Refusal}
use Rattle.circuit.specs.Refusal.{passed}
use Rattle.circuit.specs.Circuit.{circuit, NoLoop}
use Rattle.circuit.specs.Checks.{check_length, check_records}
use Rattle.circuit.specs.Stimuli.{check_stimuli}
use Rattle.call.specs.Call.{Lent, Left, Answer, accepted, Call, lent, circuit_of, checked, Promises}
use Rattle.call.proofs.Contents.{passed_refused}
use Rattle.certificate.specs.Promise.{certifying, Certifies}
use Rattle.machine.specs.Promise.{benching, answer_of, Benches}

-- a call on a table that meets no ground is accepted
pub call_accepted : (call : Call) (l : Lent) (e : Left) (a : Answer) → checked call l ≡ passed → NoLoop (circuit_of l)
    → call.later l ≡ passed → Promises call l e a → (k : ℕ) × (a ≡ accepted k)
call_accepted call l e (Ok k) ok none later p = (k, refl)
call_accepted call l e (Err r) ok none later (inl p) = passed_refused (checked call l) _ _ ok p.first
call_accepted call l e (Err r) ok none later (inr (inl (is, p))) = absurd (none p.row p.loop)
call_accepted call l e (Err r) ok none later (inr (inr p)) = passed_refused (call.later l) _ _ later p.first

-- none of grounds 1 to 10 holds of a call that asks `each` of its one output, where as much is lent as is asked
one_checked : (call : Call) (each : ℕ) (t output scratch : List ℕ) → call.asks ≡ each ∷ []
    → check_length (length t) ≡ passed → check_records t (length t / 16) ≡ passed → length t / 16 * each ≤ length output
    → length t / 16 * call.room ≤ length scratch → checked call (lent t output scratch) ≡ passed
one_checked call each t output scratch asks lengths records long enough =
    rw (
      asks,
      lengths,
      le-ltb (length output) (length t / 16 * each) long,
      le-ltb (length scratch) (length t / 16 * call.room) enough,
    )
    records

module _ (t output scratch : List ℕ) (lengths : check_length (length t) ≡ passed)
    (records : check_records t (length t / 16) ≡ passed) (none : NoLoop (circuit t (length t / 16))) where
  -- a bench call on such a table, with a list that passes
  pub bench_accepted : (s : List ℕ) (e : Left) (r : Result Unit Refusal) → length t / 16 ≤ length output
      → length t / 16 * 4 ≤ length scratch → check_stimuli (circuit t (length t / 16)) s ≡ passed
      → Benches s (lent t output scratch) e r → r ≡ Ok tt
  bench_accepted s e r long room later p =
      let (k, is) = call_accepted (benching s) (lent t output scratch) e (answer_of r)
      (one_checked (benching s) 1 t output scratch refl lengths records (omega arith) room) none later p in
      accepted_told r is
    where
      accepted_told : (r : Result Unit Refusal) {k : ℕ} → answer_of r ≡ accepted k → r ≡ Ok tt
      accepted_told (Ok u) e = refl
      accepted_told (Err r) e = let z : ◌≡◌ {A = ℕ} 0 1 = cc in absurd (omega arith)

  -- a certifying call on such a table
  pub certify_accepted : (e : Left) (r : Answer) → length t / 16 * 8 ≤ length output
      → length t / 16 * 2 ≤ length scratch → Certifies (lent t output scratch) e r
      → (k : ℕ) × (r ≡ Ok k)
  certify_accepted e r long room p =
      call_accepted certifying (lent t output scratch) e r
      (one_checked certifying 8 t output scratch refl lengths records long room) none refl p

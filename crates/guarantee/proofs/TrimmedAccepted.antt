-- A trimmed table is accepted, whatever certificate it was trimmed by: by every certifying call that is lent as much as
-- it asks, and by every such bench call whose list passes.
-- Assumes nothing.
use mathlib.Core.Path.{◌≡◌}
use mathlib.Core.List.{List}
use Prim.Native.Nat.{ℕ, ◌*◌, ◌≤◌}
use lib.ListN.{length, take}
use Rattle.std.specs.Prelude.{Result, Ok}
use Rattle.circuit.specs.declared.refusal.Refusal.{Refusal}
use Rattle.circuit.specs.Refusal.{passed}
use Rattle.circuit.specs.Circuit.{circuit}
use Rattle.circuit.specs.Stimuli.{check_stimuli}
use Rattle.call.specs.Call.{Left, Answer, lent}
use Rattle.certificate.specs.Promise.{Certifies}
use Rattle.machine.specs.Promise.{Benches}
use Rattle.trim.specs.Promise as trim-call
use Rattle.trim.specs.Promise.{CallTrims}
use Rattle.trim.proofs.Accepted.{trimmed_records, trimmed_length_passes, trimmed_records_pass, trimmed_without_loop}
use Rattle.guarantee.proofs.Passing.{bench_accepted, certify_accepted}

module _ {t certificate kept first second scratch₁ first' numbers scratch₁' : List ℕ} {k : ℕ}
    (q : CallTrims certificate kept (trim-call.lent t first second scratch₁)
    (trim-call.left first' numbers scratch₁') (Ok k)) where
  -- a certifying call on the trimmed table is accepted
  pub trimmed_certified : (cells scratch : List ℕ) (e : Left) (r : Answer) → k * 8 ≤ length cells
      → k * 2 ≤ length scratch → Certifies (lent (take (k * 16) first') cells scratch) e r
      → (rounds : ℕ) × (r ≡ Ok rounds)
  trimmed_certified cells scratch e r long room p =
      certify_accepted (take (k * 16) first') cells scratch (trimmed_length_passes q) (trimmed_records_pass q)
      (trimmed_without_loop q) e r (rw (trimmed_records q) long) (rw (trimmed_records q) room) p

  -- and so is a bench call with a list that passes
  pub trimmed_benched : (s values scratch : List ℕ) (e : Left) (r : Result Unit Refusal) → k ≤ length values
      → k * 4 ≤ length scratch → check_stimuli (circuit (take (k * 16) first') k) s ≡ passed
      → Benches s (lent (take (k * 16) first') values scratch) e r → r ≡ Ok tt
  trimmed_benched s values scratch e r long room later p =
      bench_accepted (take (k * 16) first') values scratch (trimmed_length_passes q) (trimmed_records_pass q)
      (trimmed_without_loop q) s e r (rw (trimmed_records q) long) (rw (trimmed_records q) room)
      (rw (trimmed_records q) later) p

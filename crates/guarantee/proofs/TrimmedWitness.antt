-- The premises of the claims of a trimmed table can be met: six promises that hold of a table and of what remains of
-- it, with buffers that are written out, where two wires are dropped and the poked input has another number.
-- Assumes nothing.
use mathlib.Core.Path.{◌≡◌, refl, subst}
use mathlib.Core.Logic.{◌⊎◌, inl, inr}
use mathlib.Core.List.{[], ◌∷◌, flat_map}
use Prim.Native.Nat.{ℕ, zero, suc, ◌+◌, ◌*◌, ◌/◌, ◌<◌}
use native.Mathlib.Omega.{arith}
use lib.ListN.{length, take, get_or}
use Rattle.std.specs.Prelude.{Ok}
use Rattle.net.specs.Tests.{all_below, every}
use Rattle.net.specs.Net.{list_below, after}
use Rattle.circuit.specs.Number.{u16_at}
use Rattle.circuit.specs.Circuit.{circuit, NoLoop}
use Rattle.circuit.specs.Checks.{check_records}
use Rattle.circuit.specs.Machine.{machine}
use Rattle.circuit.specs.Stimuli as stimulus
use Rattle.circuit.specs.Stimuli.{check_stimuli}
use Rattle.circuit.proofs.Tables.{falling_no_loop}
use Rattle.fact.specs.Rule.{rule}
use Rattle.fact.specs.Certificate as definition
use Rattle.fact.specs.Certificate.{initial_store, rounds}
use Rattle.certificate.specs.Promise.{Certifies}
use Rattle.machine.specs.Promise.{Benches}
use Rattle.trim.specs.Trimmed.{replaced, survivors, new_number}
use Rattle.trim.specs.Trimmed as trim-definition
use Rattle.trim.specs.Order.{check_kept, check_certificate}
use Rattle.trim.specs.Promise.{CallTrims}
use Rattle.trim.proofs.Accepted.{trimmed_without_loop}
use Rattle.guarantee.specs.TwoRuns.{BothTick, BothPoke, AlikeStimuli, ClaimsHold}
use Rattle.guarantee.specs.Trimmed.{RenumberedStimuli, renumbered, survivor_lines, TrimmedAlike}
use Rattle.guarantee.specs.TrimmedWitness.{table, certificate, kept, trimmed, numbers, stimuli, stimuli', values}
use Rattle.guarantee.specs.TrimmedWitness.{stimuli'', values', values'', certificate', zeros, written, trim_lent}
use Rattle.guarantee.specs.TrimmedWitness.{trim_left}
use Rattle.guarantee.proofs.Computed.{certified_computed}
use Rattle.guarantee.proofs.Trimmed.{trimmed_alike}
use Rattle.guarantee.proofs.Renumbering.{renumbered_own}
use Rattle.guarantee.proofs.TrimmedCertificate.{trimmed_certificate}
use Rattle.guarantee.proofs.TrimmedTwoRuns.{trimmed_two_runs}

-- ---- the table

no_loop : NoLoop (circuit table 6)
unfolding circuit check_records all_below every
no_loop = falling_no_loop table 6 (1 ∷ 0 ∷ 0 ∷ 0 ∷ 1 ∷ 0 ∷ []) refl tt

certified_once : Certifies (zeros table 48 12) (written certificate 12) (Ok 1)
unfolding flat_map circuit check_records list_below rule initial_store after rounds definition.certificate
certified_once = certified_computed (zeros table 48 12) certificate 1 refl no_loop refl refl refl

trimmed_once : CallTrims (take 48 certificate) kept trim_lent trim_left (Ok 4)
unfolding flat_map circuit check_records check_kept check_certificate replaced survivors trim-definition.trimmed
trimmed_once =
    record {
      past = record { passed = refl; no_loop = no_loop; scratch = refl };
      later = refl;
      accepts = record { count = refl; written = refl };
    }

benched_once : Benches stimuli (zeros table 6 24) (written values 24) (Ok tt)
unfolding circuit check_records check_stimuli stimulus.stimuli list_below machine
benched_once =
    record {
      past = record { passed = refl; no_loop = no_loop; scratch = refl };
      later = refl;
      accepts = record { no_number = refl; values = refl };
    }

-- ---- the trimmed table

no_loop' : NoLoop (circuit (take 64 trimmed) 4)
no_loop' = trimmed_without_loop trimmed_once

benched_trimmed : Benches stimuli' (zeros (take 64 trimmed) 4 16) (written values' 16) (Ok tt)
unfolding circuit check_records check_stimuli stimulus.stimuli list_below machine
benched_trimmed =
    record {
      past = record { passed = refl; no_loop = no_loop'; scratch = refl };
      later = refl;
      accepts = record { no_number = refl; values = refl };
    }

benched_other : Benches stimuli'' (zeros (take 64 trimmed) 4 16) (written values'' 16) (Ok tt)
unfolding circuit check_records check_stimuli stimulus.stimuli list_below machine
benched_other =
    record {
      past = record { passed = refl; no_loop = no_loop'; scratch = refl };
      later = refl;
      accepts = record { no_number = refl; values = refl };
    }

certified_trimmed : Certifies (zeros (take 64 trimmed) 32 8) (written certificate' 8) (Ok 1)
unfolding flat_map circuit check_records list_below rule initial_store after rounds definition.certificate
certified_trimmed = certified_computed (zeros (take 64 trimmed) 32 8) certificate' 1 refl no_loop' refl refl refl

-- ---- the lists

-- the second list is the first with its pokes renumbered
list_computed : renumbered
    (new_number (replaced (circuit table 6) (definition.certificate (circuit table 6))) kept) stimuli
    ≡ stimuli'
unfolding circuit definition.certificate replaced new_number renumbered
list_computed = refl

stimuli_renumbered : RenumberedStimuli numbers 4 stimuli stimuli'
stimuli_renumbered =
    subst (RenumberedStimuli numbers 4 stimuli) list_computed (renumbered_own certified_once trimmed_once benched_once)

-- the second and the third differ in what they poke into the secret input
alike_places : (i : ℕ) → i < 4
    → BothTick stimuli' stimuli'' (i * 8) ⊎ BothPoke (take 64 trimmed) stimuli' stimuli'' (i * 8)
alike_places zero h = inr (record { pokes = (refl, refl); same_variable = refl; same_value = inr (refl, refl) })
alike_places (suc zero) h = inl (refl, refl)
alike_places (suc (suc zero)) h = inl (refl, refl)
alike_places (suc (suc (suc zero))) h =
    inr (record { pokes = (refl, refl); same_variable = refl; same_value = inr (refl, refl) })
alike_places (suc (suc (suc (suc i)))) h = absurd (omega arith)

stimuli_alike : AlikeStimuli (take 64 trimmed) stimuli' stimuli''
stimuli_alike = record { equally_long = refl; alike = alike_places }

-- ---- what is claimed of them

-- the premises hold, two variables are dropped, and the variable that is poked has another number
pub premises_met : Certifies (zeros table 48 12) (written certificate 12) (Ok 1)
    × CallTrims (take 48 certificate) kept trim_lent trim_left (Ok 4)
    × Benches stimuli (zeros table 6 24) (written values 24) (Ok tt)
    × Benches stimuli' (zeros (take 64 trimmed) 4 16) (written values' 16) (Ok tt)
    × Benches stimuli'' (zeros (take 64 trimmed) 4 16) (written values'' 16) (Ok tt)
    × Certifies (zeros (take 64 trimmed) 32 8) (written certificate' 8) (Ok 1)
    × RenumberedStimuli numbers 4 stimuli stimuli'
    × AlikeStimuli (take 64 trimmed) stimuli' stimuli''
    × (4 + 2 ≡ length table / 16)
    × (u16_at stimuli' 2 ≡ u16_at stimuli 2 → ⊥)
premises_met = (
  certified_once,
  trimmed_once,
  benched_once,
  benched_trimmed,
  benched_other,
  certified_trimmed,
  stimuli_renumbered,
  stimuli_alike,
  refl,
  λ e. omega arith,
)

-- so the claim speaks of these calls
pub alike_met : TrimmedAlike kept numbers 4 values values' (Ok tt)
alike_met =
    trimmed_alike certified_once trimmed_once benched_once _ _ _ _ _ _ benched_trimmed (omega arith) (omega arith)
    stimuli_renumbered

-- and so does that of the trimmed table's certificate
pub certificate_met : (j m : ℕ) → j < 4 → m < 8
    → get_or certificate' (j * 8 + m) 0 ≡ get_or certificate (get_or numbers j 0 * 8 + m) 0
certificate_met = trimmed_certificate certified_once trimmed_once certified_trimmed

-- and demand 3 of the trimmed table, with its lines of the table's certificate
pub two_runs_met : ClaimsHold (take 64 trimmed) (survivor_lines numbers 4 certificate) values' values''
two_runs_met = trimmed_two_runs certified_once trimmed_once benched_trimmed benched_other stimuli_alike

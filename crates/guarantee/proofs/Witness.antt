-- The premises of demand 3 can be met, by lists whose secret pokes differ and that poke a fixed input: three promises
-- that hold of one table, with buffers that are written out, and runs in which the secret input ends with two numbers.
-- Assumes nothing.
use mathlib.Core.Path.{◌≡◌, refl}
use mathlib.Core.Logic.{◌⊎◌, inl, inr}
use mathlib.Core.List.{flatten, flat_map}
use Prim.Native.Nat.{ℕ, zero, suc, ◌*◌, ◌<◌}
use native.Mathlib.Omega.{arith}
use lib.ListN.{get_or}
use Rattle.std.specs.Prelude.{Ok}
use Rattle.net.specs.Tests.{all_below, every}
use Rattle.net.specs.Net.{list_below, after}
use Rattle.circuit.specs.Circuit.{Circuit, circuit, NoLoop}
use Rattle.circuit.specs.Checks.{check_records}
use Rattle.circuit.specs.Machine.{machine}
use Rattle.circuit.specs.Stimuli.{check_stimuli, stimuli}
use Rattle.circuit.proofs.Tables.{falling_no_loop}
use Rattle.fact.specs.Rule.{rule}
use Rattle.fact.specs.Certificate.{initial_store, rounds, certificate}
use Rattle.fact.proofs.Cases.{ranks_a}
use Rattle.call.specs.Call.{circuit_of}
use Rattle.certificate.specs.Promise.{Certifies}
use Rattle.machine.specs.Promise.{Benches}
use Rattle.guarantee.specs.TwoRuns.{BothTick, BothPoke, AlikeStimuli, ClaimsHold}
use Rattle.guarantee.specs.Witness as witness
use Rattle.guarantee.specs.Witness.{table, stimuli₁, stimuli₂, values₁, values₂, zeros, written}
use Rattle.guarantee.proofs.Computed.{certified_computed}
use Rattle.guarantee.proofs.TwoRuns.{two_runs_guaranteed}

-- ---- the table

abbrev c : Circuit
c = circuit_of (zeros 8 2)

-- no row is a loop: the wires are case A's
no_loop : NoLoop c
unfolding flatten circuit check_records all_below every
no_loop = falling_no_loop table 9 ranks_a refl tt

certified_once : Certifies (zeros 8 2) (written witness.certificate 2) (Ok 1)
unfolding flatten flat_map circuit check_records list_below rule initial_store after rounds certificate
certified_once = certified_computed (zeros 8 2) witness.certificate 1 refl no_loop refl refl refl

benched₁ : Benches stimuli₁ (zeros 1 4) (written values₁ 4) (Ok tt)
unfolding flatten circuit check_records check_stimuli stimuli list_below machine
benched₁ =
    record {
      past = record { passed = refl; no_loop = no_loop; scratch = refl };
      later = refl;
      accepts = record { no_number = refl; values = refl };
    }

benched₂ : Benches stimuli₂ (zeros 1 4) (written values₂ 4) (Ok tt)
unfolding flatten circuit check_records check_stimuli stimuli list_below machine
benched₂ =
    record {
      past = record { passed = refl; no_loop = no_loop; scratch = refl };
      later = refl;
      accepts = record { no_number = refl; values = refl };
    }

alike_places : (i : ℕ) → i < 6 → BothTick stimuli₁ stimuli₂ (i * 8) ⊎ BothPoke table stimuli₁ stimuli₂ (i * 8)
unfolding flatten
alike_places zero h = inr (record { pokes = (refl, refl); same_variable = refl; same_value = inl refl })
alike_places (suc zero) h = inr (record { pokes = (refl, refl); same_variable = refl; same_value = inr (refl, refl) })
alike_places (suc (suc zero)) h = inl (refl, refl)
alike_places (suc (suc (suc zero))) h =
    inr (record { pokes = (refl, refl); same_variable = refl; same_value = inr (refl, refl) })
alike_places (suc (suc (suc (suc zero)))) h = inl (refl, refl)
alike_places (suc (suc (suc (suc (suc zero))))) h =
    inr (record { pokes = (refl, refl); same_variable = refl; same_value = inl refl })
alike_places (suc (suc (suc (suc (suc (suc i)))))) h = absurd (omega arith)

stimuli_alike : AlikeStimuli table stimuli₁ stimuli₂
stimuli_alike = record { equally_long = refl; alike = alike_places }

-- the premises of demand 3 hold, and the secret input ends with two numbers
pub premises_met : Certifies (zeros 8 2) (written witness.certificate 2) (Ok 1)
    × Benches stimuli₁ (zeros 1 4) (written values₁ 4) (Ok tt)
    × Benches stimuli₂ (zeros 1 4) (written values₂ 4) (Ok tt)
    × AlikeStimuli table stimuli₁ stimuli₂
    × (get_or values₁ 0 0 ≡ get_or values₂ 0 0 → ⊥)
premises_met = (certified_once, benched₁, benched₂, stimuli_alike, λ e. omega arith)

-- so demand 3 speaks of these calls
pub claims_met : ClaimsHold table witness.certificate values₁ values₂
claims_met =
    two_runs_guaranteed _ _ _ _ _ _ _ _ _ _ _ _ _ _ _ certified_once benched₁ benched₂ stimuli_alike

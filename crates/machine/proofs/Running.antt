-- Stimuli one after another: the invariant of the run, and that it ends in the state after the whole list.
-- Assumes nothing.
use mathlib.Core.Path.{◌≡◌, sym, ap, ◌∙◌}
use mathlib.Core.List.{List}
use Prim.Native.Nat.{ℕ, ◌+◌, ◌*◌, ◌/◌, ◌<◌, ◌≤◌}
use native.Mathlib.Numerals.{add-one}
use native.Mathlib.Omega.{arith}
use lib.ListN.{length, take}
use lib.Seq.{take_all}
use Rattle.net.specs.declared.Stimulus.{Stimulus}
use Rattle.net.specs.declared.Stimulus.TheVariants.{Tick}
use Rattle.net.specs.Machine.{act, run}
use Rattle.net.proofs.Lists.{length_list_below, get_or_list_below}
use Rattle.net.proofs.Machine.{run_take}
use Rattle.buffer.specs.Kept.{Kept}
use Rattle.buffer.specs.Store.{numbers, Moves}
use Rattle.buffer.proofs.Filled.{kept_none, kept_trans}
use Rattle.buffer.proofs.Store.{moves_none, moves_then, moves_as}
use Rattle.circuit.specs.Circuit.{Circuit, graph}
use Rattle.circuit.specs.Machine.{values}
use Rattle.circuit.specs.Stimuli.{stimulus_at, stimuli}
use Rattle.engine.specs.declared.plan.Plan.{Plan}
use Rattle.engine.specs.Plans.{circuit_of}

stimuli_length : (s : List ℕ) → length (stimuli s) ≡ length s / 8
unfolding stimuli
stimuli_length s = length_list_below _ (length s / 8)

-- the state after one stimulus more
run_next : (c : Circuit) (s : List ℕ) (i : ℕ) (x : ℕ → ℕ) → i < length s / 8
    → act (graph c) (values c) (stimulus_at s (i * 8)) (run (graph c) (values c) (take i (stimuli s)) x)
    ≡ run (graph c) (values c) (take (i + 1) (stimuli s)) x
unfolding stimuli
run_next c s i x h =
    rw (add-one i)
    (ap (λ (y : Stimulus). act (graph c) (values c) y (run (graph c) (values c) (take i (stimuli s)) x))
    (sym (get_or_list_below (λ k. stimulus_at s (k * 8)) (length s / 8) i Tick h))
    ∙ sym (run_take (graph c) (values c) (stimuli s) i Tick x (omega (arith, stimuli_length s))))

-- the first i stimuli have acted
pub record RanTo (p : Plan) (s staging₀ values₀ staging cells : List ℕ) (i : ℕ) : Type 0 where
  pub kept : Kept (length p.registers.now * 2) staging₀ staging
  pub moves : Moves numbers p.table.records
      (run (graph (circuit_of p)) (values (circuit_of p)) (take i (stimuli s))) values₀ cells

pub none_ran : (p : Plan) (s : List ℕ) {staging cells : List ℕ} → RanTo p s staging cells staging cells 0
unfolding run
none_ran p s = record { kept = kept_none _ _; moves = moves_none }

module _ {p : Plan} {s staging₀ values₀ staging cells : List ℕ} {i : ℕ}
    (ran : RanTo p s staging₀ values₀ staging cells i) where
  abbrev c : Circuit
  c = circuit_of p

  pub one_ran : {staging' cells' : List ℕ} → i < length s / 8 → Kept (length p.registers.now * 2) staging staging'
      → Moves numbers p.table.records (act (graph (circuit_of p)) (values (circuit_of p)) (stimulus_at s (i * 8)))
      cells cells'
      → RanTo p s staging₀ values₀ staging' cells' (i + 1)
  one_ran h kept acted =
      record {
        kept = kept_trans ran.kept kept;
        moves =
            moves_as (moves_then ran.moves acted) (λ x v l. ap (λ (y : ℕ → ℕ). y v) (run_next c s i x h));
      }

  pub all_ran : length s / 8 ≤ i
      → Moves numbers p.table.records (run (graph (circuit_of p)) (values (circuit_of p)) (stimuli s)) values₀ cells
  all_ran h =
      moves_as ran.moves (λ x v l. ap (λ (xs : List Stimulus). run (graph c) (values c) xs x v) whole)
    where
      whole : take i (stimuli s) ≡ stimuli s
      whole =
          take_all i (stimuli s) (omega (arith, stimuli_length s))

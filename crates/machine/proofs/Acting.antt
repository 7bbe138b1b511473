-- A poke and a tick, as what they make of the state that a list of numbers holds.
-- Assumes nothing.
use mathlib.Core.Path.{◌≡◌, refl, sym, subst}
use mathlib.Core.List.{List}
use Prim.Native.Nat.{ℕ, ◌<◌, ◌≤◌}
use native.Mathlib.Nat.{mul-one}
use native.Mathlib.Omega.{arith}
use lib.ListN.{length, set}
use Rattle.net.specs.declared.Stimulus.{Stimulus}
use Rattle.net.specs.declared.Stimulus.TheVariants.{Poke, Tick}
use Rattle.net.specs.Net.{put, settle, step, round}
use Rattle.net.specs.Machine.{act}
use Rattle.buffer.specs.Store.{numbers, Moves}
use Rattle.buffer.proofs.Layouts.{numbers_laws, wrote_number}
use Rattle.buffer.proofs.Store.{moves_none, moves_then, moves_wrote}
use Rattle.circuit.specs.Circuit.{Circuit, graph}
use Rattle.circuit.specs.Machine.{values}

module _ (c : Circuit) {n : ℕ} {entry exit : List ℕ} where
  -- the same stimulus by another name
  pub act_same : {x y : Stimulus} → x ≡ y → Moves numbers n (act (graph c) (values c) x) entry exit
      → Moves numbers n (act (graph c) (values c) y) entry exit
  act_same e = subst (λ (z : Stimulus). Moves numbers n (act (graph c) (values c) z) entry exit) e

  pub poke_moves : (v x : ℕ) → v < n → n ≤ length entry
      → Moves numbers n (settle (graph c) (values c)) (set entry v x) exit
      → Moves numbers n (act (graph c) (values c) (Poke v x)) entry exit
  unfolding act put
  poke_moves v x below room settled =
      moves_then
      (moves_wrote numbers_laws {G = λ s. put s v x} v moves_none (sym (mul-one v)) below
      (wrote_number entry v x (omega arith)) (λ s p u l. refl))
      settled

  pub tick_moves : {stepped : List ℕ} → Moves numbers n (step (graph c) (values c)) entry stepped
      → Moves numbers n (settle (graph c) (values c)) stepped exit
      → Moves numbers n (act (graph c) (values c) Tick) entry exit
  unfolding act round
  tick_moves = moves_then

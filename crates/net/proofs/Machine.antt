-- Stimuli one after another; and on a net without a loop, each leaves every wire satisfied.
-- Assumes nothing.
use mathlib.Core.Path.{◌≡◌, refl}
use mathlib.Core.List.{List, [], ◌∷◌}
use Prim.Native.Nat.{ℕ, zero, suc, ◌<◌}
use native.Mathlib.Nat.{not-suc-le-zero, le_of_suc-le-suc}
use lib.ListN.{length, get_or, take}
use Rattle.net.specs.declared.Stimulus.{Stimulus}
use Rattle.net.specs.declared.Stimulus.TheVariants.{Poke, Tick}
use Rattle.net.specs.Net.{Graph, put, step, round, Settled}
use Rattle.net.specs.Machine.{act, run}
use Rattle.net.proofs.Settle.{Ranked, Local, settle_settled}

-- one stimulus more
pub run_take : (g : Graph) (f : (ℕ → ℕ) → ℕ → ℕ) (xs : List Stimulus) (i : ℕ) (d : Stimulus) (s : ℕ → ℕ) → i < length xs
    → run g f (take (suc i) xs) s ≡ act g f (get_or xs i d) (run g f (take i xs) s)
unfolding run
run_take g f [] i d s h = absurd (not-suc-le-zero h)
run_take g f (x ∷ xs) zero d s h = refl
run_take g f (x ∷ xs) (suc i) d s h = run_take g f xs i d (act g f x s) (le_of_suc-le-suc h)

module _ {g : Graph} (r : Ranked g) (f : (ℕ → ℕ) → ℕ → ℕ) (local : Local g f) where
  act_settled : (x : Stimulus) (s : ℕ → ℕ) → Settled g f (act g f x s)
  unfolding act round
  act_settled (Poke i x) s = settle_settled r f local (put s i x)
  act_settled Tick s = settle_settled r f local (step g f s)

  pub run_settled : (xs : List Stimulus) (s : ℕ → ℕ) → Settled g f s → Settled g f (run g f xs s)
  unfolding run
  run_settled [] s h = h
  run_settled (x ∷ xs) s h = run_settled xs (act g f x s) (act_settled x s)

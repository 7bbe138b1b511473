-- Document 01's bench machine, as a net of numbers: its state is one number a variable, and a tick is a round.
-- Assumes nothing.
use Rattle.std.specs.Prelude.{◌≡◌, ℕ, ◌<◌}
use mathlib.Core.List.{List, [], ◌∷◌}
use Rattle.net.specs.declared.Stimulus.{Stimulus}
use Rattle.net.specs.declared.Stimulus.TheVariants.{Poke, Tick}
use Rattle.net.specs.Net.{Graph, put, settle, round}

module _ (g : Graph) (f : (ℕ → ℕ) → ℕ → ℕ) where
  -- document 01's poke sets one input (ground 15 turns away every other variable), its tick moves all registers
  -- together, and the wires follow
  unfoldable pub act : Stimulus → (ℕ → ℕ) → ℕ → ℕ
  unfolding settle round put
  act (Poke i x) s = settle g f (put s i x)
  act Tick s = round g f s

  -- the state after a list of stimuli, each on the state that the one before left
  unfoldable pub run : List Stimulus → (ℕ → ℕ) → ℕ → ℕ
  unfolding act
  run [] s = s
  run (x ∷ xs) s = run xs (act x s)

-- two lists of stimuli, equally long: at each place both tick, or both poke the same variable, with values that R
-- relates there
pub data Alike (R : ℕ → ℕ → ℕ → Type 0) : List Stimulus → List Stimulus → Type 0 where
  none : Alike R [] []
  ticks : {xs ys : List Stimulus} → Alike R xs ys → Alike R (Tick ∷ xs) (Tick ∷ ys)
  pokes : {i x y : ℕ} {xs ys : List Stimulus} → R i x y → Alike R xs ys → Alike R (Poke i x ∷ xs) (Poke i y ∷ ys)

-- two lists of stimuli, equally long: at each place both tick, or both poke with one value, the second list a variable
-- j of the net g, the first the variable old j
pub data Renumbered (g : Graph) (old : ℕ → ℕ) : List Stimulus → List Stimulus → Type 0 where
  none : Renumbered g old [] []
  ticks : {xs ys : List Stimulus} → Renumbered g old xs ys → Renumbered g old (Tick ∷ xs) (Tick ∷ ys)
  pokes : {i j x : ℕ} {xs ys : List Stimulus} → j < g.size → old j ≡ i → Renumbered g old xs ys
      → Renumbered g old (Poke i x ∷ xs) (Poke j x ∷ ys)

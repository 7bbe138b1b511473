-- Stores in buffers of numbers, over any type of values: how values stand in them, and what a call leaves there. For
-- contracts of what works on them.
-- Assumes nothing.
use Rattle.std.specs.Prelude.{◌≡◌, List, [], ◌∷◌, ℕ, ◌+◌, ◌*◌, ◌<◌, length, get_or}
use Rattle.buffer.specs.Kept.{Kept, KeptOutside}

-- how a value stands in a row of numbers: as how many, as which, and what is read from a place on
pub record Layout (A : Type 0) : Type 0 where
  pub each : ℕ
  pub image : A → List ℕ
  pub at : List ℕ → ℕ → A

-- what is asked of a layout: a value has `each` numbers, and what is read from a place on depends on `each` numbers
-- from there on
pub record LayoutLaws {A : Type 0} (L : Layout A) : Type 0 where
  pub size : (x : A) → length (L.image x) ≡ L.each
  pub local : (k l : List ℕ) (i j : ℕ) → ((m : ℕ) → m < L.each → get_or k (i + m) 0 ≡ get_or l (j + m) 0)
      → L.at k i ≡ L.at l j

-- a number as itself
abbrev pub numbers : Layout ℕ
numbers = record { each = 1; image = λ x. x ∷ []; at = λ l i. get_or l i 0 }

module _ {A : Type 0} (L : Layout A) where
  -- the value x stands from place i on: its numbers do, and they read as x, so that it fits them
  pub record Cell (l : List ℕ) (i : ℕ) (x : A) : Type 0 where
    pub stands : (m : ℕ) → m < L.each → get_or l (i + m) 0 ≡ get_or (L.image x) m 0
    pub reads : L.at l i ≡ x

  -- it was written there, and nothing else was
  pub record Wrote (l l' : List ℕ) (i : ℕ) (x : A) : Type 0 where
    pub kept : KeptOutside i (i + L.each) l l'
    pub cell : Cell l' i x

  -- the first n values of a store stand one after another from a place on
  pub record Stands (from n : ℕ) (s : ℕ → A) (l : List ℕ) : Type 0 where
    pub cell : (v : ℕ) → v < n → Cell l (from + v * L.each) (s v)

  -- the first n values of a store stand in front, and what lies past them is as it was
  pub record Holds (n : ℕ) (s : ℕ → A) (entry exit : List ℕ) : Type 0 where
    pub kept : Kept (n * L.each) entry exit
    pub stands : Stands 0 n s exit

  -- whatever store stood in front, F makes of it what stands there now; what lies past it is as it was. Where none
  -- stood, that alone is said.
  pub record Moves (n : ℕ) (F : (ℕ → A) → ℕ → A) (entry exit : List ℕ) : Type 0 where
    pub kept : Kept (n * L.each) entry exit
    pub leads : (s : ℕ → A) → Stands 0 n s entry → Stands 0 n (F s) exit

-- Lists that were written in part: what is new and what is as it was. For contracts of what writes them.
-- Assumes nothing.
use Rattle.std.specs.Prelude.{◌≡◌, List, ℕ, ◌+◌, ◌≤◌, ◌<◌, length, get_or}

-- what lies past the first m numbers is as it was
pub record Kept (m : ℕ) (entry exit : List ℕ) : Type 0 where
  pub long : length exit ≡ length entry
  pub beyond : (i : ℕ) → m ≤ i → get_or exit i 0 ≡ get_or entry i 0

-- what lies before one place and from another on is as it was
pub record KeptOutside (from to : ℕ) (entry exit : List ℕ) : Type 0 where
  pub long : length exit ≡ length entry
  pub before : (i : ℕ) → i < from → get_or exit i 0 ≡ get_or entry i 0
  pub beyond : (i : ℕ) → to ≤ i → get_or exit i 0 ≡ get_or entry i 0

-- the `count` numbers from a place on are those of f, the rest is as it was
pub record Filled (from count : ℕ) (f : ℕ → ℕ) (entry exit : List ℕ) : Type 0 where
  pub long : length exit ≡ length entry
  pub here : (i : ℕ) → i < count → get_or exit (from + i) 0 ≡ f i
  pub before : (i : ℕ) → i < from → get_or exit i 0 ≡ get_or entry i 0
  pub beyond : (i : ℕ) → from + count ≤ i → get_or exit i 0 ≡ get_or entry i 0

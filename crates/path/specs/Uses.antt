-- The variables that a record uses, as three numbers in ascending order, for contracts of what takes them so.
-- Assumes nothing.
use Rattle.std.specs.Prelude.{◌≡◌, List, ℕ, ◌+◌, ◌≤◌, ◌<◌, length, get_or}
use Rattle.net.specs.Tests.{member}

-- r is three numbers, those of the list and no others, some of them more than once where it has fewer, and they ascend
pub record Sorted (l r : List ℕ) : Type 0 where
  pub three : length r ≡ 3
  pub ascends : (i : ℕ) → i + 1 < 3 → get_or r i 0 ≤ get_or r (i + 1) 0
  pub members : (u : ℕ) → member u r ≡ member u l

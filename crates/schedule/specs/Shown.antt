-- A loop that was found on the stack, written to the front with its lowest variable first. For the contracts of private
-- functions.
-- Assumes nothing.
use Rattle.std.specs.Prelude.{◌≡◌, true, false, List, ℕ, ◌+◌, ◌-◌, ◌≤◌, ◌<◌, leb, get_or}
use Rattle.buffer.specs.Kept.{Kept}

-- where number i of a loop stands: from place m down to place top, and on from place p down
unfoldable pub rotation : ℕ → ℕ → ℕ → ℕ → ℕ
rotation top p m i = elim (leb (top + i) m) [ true ↦ m - i | false ↦ m + (p + 1 - top) - i ]

-- the loop that stands from the place p of u down to the top is at the front, its lowest first
pub record Shown (n top u : ℕ) (entry exit : List ℕ) (size : ℕ) : Type 0 where
  pub p : ℕ
  pub m : ℕ
  pub top_m : top ≤ m
  pub m_p : m ≤ p
  pub p_n : p < n
  pub at_p : get_or entry p 0 ≡ u
  pub least : (i : ℕ) → top ≤ i → i ≤ p → get_or entry m 0 ≤ get_or entry i 0
  pub size_is : size ≡ p + 1 - top
  pub row : (i : ℕ) → i < size → get_or exit i 0 ≡ get_or entry (rotation top p m i) 0
  pub kept : Kept (n + n) entry exit

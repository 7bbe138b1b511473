-- A table of powers of two.
-- Assumes nothing.
use Rattle.std.specs.Prelude.{◌≡◌, ℕ, ◌^◌, ◌≤◌, List, slice_index}

-- entry w of the table is 2^w, for each w from 0 to 32
abbrev pub Powers : List ℕ → Type 0
Powers powers = (w : ℕ) → w ≤ 32 → slice_index powers w ≡ 2 ^ w

-- Text that is put into a buffer from its end down, each piece before what stands there: for contracts of what puts it.
-- Assumes nothing.
use Rattle.std.specs.Prelude.{◌≡◌, List, ◌++◌, ℕ, ◌+◌, length, take, drop}

-- the text stands before what stood from a place on, and begins at r; what lies before r is as it was
pub record Put (text entry : List ℕ) (from : ℕ) (exit : List ℕ) (r : ℕ) : Type 0 where
  pub start : r + length text ≡ from
  pub long : length exit ≡ length entry
  pub stands : drop r exit ≡ text ++ drop from entry
  pub kept : take r exit ≡ take r entry

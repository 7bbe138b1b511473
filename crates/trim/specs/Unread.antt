-- Which bytes of a certificate the trimming call reads: byte 0 of each variable, and its number where that byte is 1.
-- Assumes nothing.
use Rattle.std.specs.Prelude.{◌≡◌, List, ℕ, ◌+◌, ◌*◌, ◌<◌, length, get_or}
use Rattle.circuit.specs.Number.{u32_at}

-- two certificates of n variables that differ only in bytes that are not read: bytes 1 to 3, and bytes 4 to 7 of a fact
-- that is not always
pub record SameRead (n : ℕ) (a b : List ℕ) : Type 0 where
  pub equally_long : length a ≡ length b
  pub same_fact : (v : ℕ) → v < n → get_or a (v * 8) 0 ≡ get_or b (v * 8) 0
  pub same_number : (v : ℕ) → v < n → get_or a (v * 8) 0 ≡ 1 → u32_at a (v * 8 + 4) ≡ u32_at b (v * 8 + 4)

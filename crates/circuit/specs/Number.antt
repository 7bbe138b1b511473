-- Numbers in bytes: little-endian and unsigned, as all multi-byte numbers are.
-- Assumes nothing.
use Rattle.std.specs.Prelude.{ℕ, ◌+◌, ◌*◌, ◌/◌, ◌%◌, List, [], ◌∷◌, slice_index}

-- the number in the two bytes from a place on
abbrev pub u16_at : List ℕ → ℕ → ℕ
u16_at t at = slice_index t at + 256 * slice_index t (at + 1)

-- the number in the four bytes from a place on
abbrev pub u32_at : List ℕ → ℕ → ℕ
u32_at t at = slice_index t at + 256 * slice_index t (at + 1) + 65536 * slice_index t (at + 2) + 16777216 * slice_index t (at + 3)

-- the two bytes of a number
abbrev pub u16_bytes : ℕ → List ℕ
u16_bytes n = n % 256 ∷ n / 256 % 256 ∷ []

-- the four bytes of a number
abbrev pub u32_bytes : ℕ → List ℕ
u32_bytes n = n % 256 ∷ n / 256 % 256 ∷ n / 65536 % 256 ∷ n / 16777216 % 256 ∷ []

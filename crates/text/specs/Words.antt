-- A number in base ten, read from a word's bytes, in ASCII.
-- Assumes nothing.
use Rattle.std.specs.Prelude.{Bool, true, false, not, ◌&&◌, List, [], ◌∷◌, ℕ, ◌+◌, ◌-◌, ◌*◌, ◌^◌, eqb, leb, ltb, length}
use Rattle.std.specs.Prelude.{Result, Ok, Err}
use Rattle.std.specs.List.{list_all}
use Rattle.text.specs.declared.word.NumberError.{NumberError}
use Rattle.text.specs.declared.word.NumberError.TheVariants.{NoNumber, TooWide}

-- "0" to "9"
abbrev pub is_digit : ℕ → Bool
is_digit b = leb 48 b && leb b 57

-- the number that digits stand for, behind those of a number
unfoldable pub value : ℕ → List ℕ → ℕ
value n [] = n
value n (x ∷ xs) = value (n * 10 + (x - 48)) xs

-- a number where it needs at most 32 bits
abbrev pub fitted : ℕ → Result ℕ NumberError
fitted n = elim (ltb n (2 ^ 32)) [ true ↦ Ok n | false ↦ Err TooWide ]

-- a word is a number where it has some digits and nothing else
abbrev pub read_number : List ℕ → Result ℕ NumberError
read_number word =
    elim (not (eqb (length word) 0) && list_all is_digit word) [ true ↦ fitted (value 0 word) | false ↦ Err NoNumber ]

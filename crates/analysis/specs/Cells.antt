-- How facts stand in a scratch of 16-bit numbers: three a variable in front, and behind them the order of the wires and
-- registers and what is staged of a round.
-- Assumes nothing.
use Rattle.std.specs.Prelude.{List, [], ◌∷◌, ◌++◌, ℕ, ◌+◌, ◌*◌, ◌/◌, ◌%◌, get_or}
use Rattle.buffer.specs.Store.{Layout}
use Rattle.circuit.specs.Number.{u16_bytes}
use Rattle.fact.specs.declared.Fact.{Fact}
use Rattle.fact.specs.Fact.{fact_byte, fact_number, fact_of}

-- a fact as byte 0 of its 8 bytes and the two halves of its number, the low one first
abbrev pub words : Layout Fact
words = record {
  each = 3;
  image = λ f. fact_byte f ∷ fact_number f % 65536 ∷ fact_number f / 65536 ∷ [];
  at = λ l i. fact_of (get_or l i 0) (get_or l (i + 1) 0 + 65536 * get_or l (i + 2) 0);
}

-- the 8 bytes of a fact of which the scratch has these three numbers: byte 0, three zeros, the bytes of both halves
abbrev pub word_bytes : ℕ → ℕ → ℕ → List ℕ
word_bytes byte low high = (byte ∷ 0 ∷ 0 ∷ 0 ∷ []) ++ u16_bytes low ++ u16_bytes high

-- the fact that the scratch gives variable v
abbrev pub words_at : List ℕ → ℕ → Fact
words_at s v = words.at s (v * 3)

-- the 8 bytes of that fact
abbrev pub word_bytes_at : List ℕ → ℕ → List ℕ
word_bytes_at s v = word_bytes (get_or s (v * 3) 0) (get_or s (v * 3 + 1) 0) (get_or s (v * 3 + 2) 0)

-- how many 16-bit numbers a record a call asks of the scratch that has the facts worked out in it
abbrev pub room : ℕ
room = 8

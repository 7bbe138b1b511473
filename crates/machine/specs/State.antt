-- The machine's state in a list of numbers, number v for variable v, for contracts of what works on it.
-- Assumes nothing.
use Rattle.std.specs.Prelude.{List, ℕ, get_or}

abbrev pub state : List ℕ → ℕ → ℕ
state values v = get_or values v 0

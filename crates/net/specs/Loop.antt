-- Loops of wires.
-- Assumes nothing.
use Rattle.std.specs.Prelude.{◌≡◌, List, ℕ, ◌+◌, ◌-◌, ◌≤◌, ◌<◌, T, length, get_or}
use Rattle.net.specs.Tests.{member}
use Rattle.net.specs.Net.{Graph, wire}

-- v uses u
abbrev pub Uses : Graph → ℕ → ℕ → Type 0
Uses g v u = T (member u (g.uses v))

-- document 01's loop: a row of distinct wires, each using the next and the last using the first
pub record Loop (g : Graph) (row : List ℕ) : Type 0 where
  pub some : 0 < length row
  pub wires : (i : ℕ) → i < length row → (get_or row i 0 < g.size) × (g.role (get_or row i 0) ≡ wire)
  pub distinct : (i j : ℕ) → i < length row → j < length row → get_or row i 0 ≡ get_or row j 0 → i ≡ j
  pub next : (i : ℕ) → i + 1 < length row → Uses g (get_or row i 0) (get_or row (i + 1) 0)
  pub back : Uses g (get_or row (length row - 1) 0) (get_or row 0 0)

-- a row as it is shown: it begins at its lowest variable
abbrev pub LowestFirst : List ℕ → Type 0
LowestFirst row = (i : ℕ) → i < length row → get_or row 0 0 ≤ get_or row i 0

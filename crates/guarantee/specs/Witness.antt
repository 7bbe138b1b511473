-- Three calls to which demand 3 applies: case A's records and a fixed input behind them, two lists of stimuli that
-- differ in what they poke into the secret input, and the buffers of a certifying call and of two bench calls, before
-- and after.
-- Assumes nothing.
use mathlib.Core.List.{List, [], ◌∷◌, ◌++◌, flatten}
use Rattle.std.specs.Prelude.{ℕ, ◌*◌, replicate}
use Rattle.fact.specs.Cases.{case_a}
use Rattle.call.specs.Call.{Lent, Left, lent, left}

-- A's seven records, an input of width 4 that is fixed to 9 (7), and a register that takes it, at power-on 5 (8)
abbrev pub table : List ℕ
table =
    flatten case_a.records
    ++ (0 ∷ 4 ∷ 0 ∷ 0 ∷ 0 ∷ 0 ∷ 0 ∷ 0 ∷ 0 ∷ 0 ∷ 0 ∷ 0 ∷ 9 ∷ 0 ∷ 0 ∷ 0 ∷ [])
    ++ (4 ∷ 4 ∷ 0 ∷ 0 ∷ 7 ∷ 0 ∷ 0 ∷ 0 ∷ 0 ∷ 0 ∷ 0 ∷ 0 ∷ 5 ∷ 0 ∷ 0 ∷ 0 ∷ [])

-- the 8 bytes of a poke, its variable and value below 256
abbrev pub poke : ℕ → ℕ → List ℕ
poke v x = 0 ∷ 0 ∷ v ∷ 0 ∷ x ∷ 0 ∷ 0 ∷ 0 ∷ []

-- the 8 bytes of a tick
abbrev pub tick : List ℕ
tick = 1 ∷ 0 ∷ 0 ∷ 0 ∷ 0 ∷ 0 ∷ 0 ∷ 0 ∷ []

-- 1 is poked into the free input, x into the secret one; tick; y into the secret one; tick; 9 into the fixed one, which
-- has held 0 over both ticks
abbrev stimuli_with : ℕ → ℕ → List ℕ
stimuli_with x y = poke 1 1 ++ poke 0 x ++ tick ++ poke 0 y ++ tick ++ poke 7 9

abbrev pub stimuli₁ : List ℕ
stimuli₁ = stimuli_with 7 5

abbrev pub stimuli₂ : List ℕ
stimuli₂ = stimuli_with 9 200

-- the 8 bytes of a fact, its number below 256
abbrev pub cell : ℕ → ℕ → List ℕ
cell byte n = byte ∷ 0 ∷ 0 ∷ 0 ∷ n ∷ 0 ∷ 0 ∷ 0 ∷ []

-- marked, open, always 5, open, open, open, marked; the fixed input and its register open
abbrev pub certificate : List ℕ
certificate =
    cell 3 0 ++ cell 2 0 ++ cell 1 5 ++ cell 2 0 ++ cell 2 0 ++ cell 2 0 ++ cell 3 0 ++ cell 2 0 ++ cell 2 0

-- what the two runs end in
abbrev pub values₁ : List ℕ
values₁ = 5 ∷ 1 ∷ 5 ∷ 10 ∷ 15 ∷ 15 ∷ 1 ∷ 9 ∷ 0 ∷ []

abbrev pub values₂ : List ℕ
values₂ = 200 ∷ 1 ∷ 5 ∷ 10 ∷ 15 ∷ 15 ∷ 0 ∷ 9 ∷ 0 ∷ []

-- buffers of zeros, so many numbers a record of the output and of the scratch
abbrev pub zeros : ℕ → ℕ → Lent
zeros each room = lent table (replicate (9 * each) 0) (replicate (9 * room) 0)

-- an output, and the scratch cleared
abbrev pub written : List ℕ → ℕ → Left
written output room = left output (replicate (9 * room) 0)

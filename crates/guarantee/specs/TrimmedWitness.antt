-- Six calls to which the claims of a trimmed table apply: a table of six records of which two are dropped, the one that
-- remains of it, a list of stimuli for each, one for the latter with other secrets, and the buffers of two certifying
-- calls, a trimming call and three bench calls, before and after.
-- Assumes nothing.
use Rattle.std.specs.Prelude.{List, [], ◌∷◌, ◌++◌, ℕ, replicate}
use Rattle.call.specs.Call.{Lent, Left, lent, left}
use Rattle.trim.specs.Promise as trim-call
use Rattle.guarantee.specs.Witness.{poke, tick, cell}

-- the exclusive or of 1 and 2 (0), a secret input (1), the constant 5 (2), a register that takes it, at power-on 5 (3),
-- the sum of 1 and 3 (4), and a register that takes the sum, at power-on 0 (5); all of width 8
abbrev pub table : List ℕ
table =
    (2 ∷ 8 ∷ 4 ∷ 0 ∷ 1 ∷ 0 ∷ 2 ∷ 0 ∷ 0 ∷ 0 ∷ 0 ∷ 0 ∷ 0 ∷ 0 ∷ 0 ∷ 0 ∷ [])
    ++ (0 ∷ 8 ∷ 2 ∷ 0 ∷ 0 ∷ 0 ∷ 0 ∷ 0 ∷ 0 ∷ 0 ∷ 0 ∷ 0 ∷ 0 ∷ 0 ∷ 0 ∷ 0 ∷ [])
    ++ (1 ∷ 8 ∷ 0 ∷ 0 ∷ 0 ∷ 0 ∷ 0 ∷ 0 ∷ 0 ∷ 0 ∷ 0 ∷ 0 ∷ 5 ∷ 0 ∷ 0 ∷ 0 ∷ [])
    ++ (4 ∷ 8 ∷ 0 ∷ 0 ∷ 2 ∷ 0 ∷ 0 ∷ 0 ∷ 0 ∷ 0 ∷ 0 ∷ 0 ∷ 5 ∷ 0 ∷ 0 ∷ 0 ∷ [])
    ++ (2 ∷ 8 ∷ 0 ∷ 0 ∷ 1 ∷ 0 ∷ 3 ∷ 0 ∷ 0 ∷ 0 ∷ 0 ∷ 0 ∷ 0 ∷ 0 ∷ 0 ∷ 0 ∷ [])
    ++ (4 ∷ 8 ∷ 0 ∷ 0 ∷ 4 ∷ 0 ∷ 0 ∷ 0 ∷ 0 ∷ 0 ∷ 0 ∷ 0 ∷ 0 ∷ 0 ∷ 0 ∷ 0 ∷ [])

-- marked, marked, always 5, always 5, marked, marked
abbrev pub certificate : List ℕ
certificate = cell 3 0 ++ cell 3 0 ++ cell 1 5 ++ cell 1 5 ++ cell 3 0 ++ cell 3 0

-- the last register is kept
abbrev pub kept : List ℕ
kept = 5 ∷ []

-- what remains: the secret input, the register that is called always as the constant 5, the sum and the last register;
-- behind it two records' bytes of the buffer, as they were
abbrev pub trimmed : List ℕ
trimmed =
    (0 ∷ 8 ∷ 2 ∷ 0 ∷ 0 ∷ 0 ∷ 0 ∷ 0 ∷ 0 ∷ 0 ∷ 0 ∷ 0 ∷ 0 ∷ 0 ∷ 0 ∷ 0 ∷ [])
    ++ (1 ∷ 8 ∷ 0 ∷ 0 ∷ 0 ∷ 0 ∷ 0 ∷ 0 ∷ 0 ∷ 0 ∷ 0 ∷ 0 ∷ 5 ∷ 0 ∷ 0 ∷ 0 ∷ [])
    ++ (2 ∷ 8 ∷ 0 ∷ 0 ∷ 0 ∷ 0 ∷ 1 ∷ 0 ∷ 0 ∷ 0 ∷ 0 ∷ 0 ∷ 0 ∷ 0 ∷ 0 ∷ 0 ∷ [])
    ++ (4 ∷ 8 ∷ 0 ∷ 0 ∷ 2 ∷ 0 ∷ 0 ∷ 0 ∷ 0 ∷ 0 ∷ 0 ∷ 0 ∷ 0 ∷ 0 ∷ 0 ∷ 0 ∷ [])
    ++ replicate 32 0

-- the old numbers of its four records
abbrev pub numbers : List ℕ
numbers = 1 ∷ 3 ∷ 4 ∷ 5 ∷ 0 ∷ 0 ∷ []

-- x is poked into the input of a number; two ticks; y is poked into it
abbrev stimuli_of : ℕ → ℕ → ℕ → List ℕ
stimuli_of v x y = poke v x ++ tick ++ tick ++ poke v y

-- the secret input is variable 1 of the table, and variable 0 of the trimmed one
abbrev pub stimuli : List ℕ
stimuli = stimuli_of 1 7 9

abbrev pub stimuli' : List ℕ
stimuli' = stimuli_of 0 7 9

-- on the trimmed table with other secrets
abbrev pub stimuli'' : List ℕ
stimuli'' = stimuli_of 0 200 3

-- what the three runs end in
abbrev pub values : List ℕ
values = 12 ∷ 9 ∷ 5 ∷ 5 ∷ 14 ∷ 12 ∷ []

abbrev pub values' : List ℕ
values' = 9 ∷ 5 ∷ 14 ∷ 12 ∷ []

abbrev pub values'' : List ℕ
values'' = 3 ∷ 5 ∷ 8 ∷ 205 ∷ []

-- the trimmed table's certificate: marked, always 5, marked, marked
abbrev pub certificate' : List ℕ
certificate' = cell 3 0 ++ cell 1 5 ++ cell 3 0 ++ cell 3 0

-- a table, and so many zeros for an output and for the scratch
abbrev pub zeros : List ℕ → ℕ → ℕ → Lent
zeros t output scratch = lent t (replicate output 0) (replicate scratch 0)

-- an output, and the scratch cleared
abbrev pub written : List ℕ → ℕ → Left
written output scratch = left output (replicate scratch 0)

-- what is lent to the trimming call, and what it leaves
abbrev pub trim_lent : Lent
trim_lent = trim-call.lent table (replicate 96 0) (replicate 6 0) (replicate 24 0)

abbrev pub trim_left : Left
trim_left = trim-call.left trimmed numbers (replicate 24 0)

-- Bench runs worked by hand, from bytes: the table's 16-byte records, the stimuli of 8 bytes, and the state in the end.
-- Assumes nothing.
use Rattle.std.specs.Prelude.{◌≡◌, ℕ, ◌*◌, List, [], ◌∷◌, length, take, refl}
use mathlib.Core.List.{flatten}
use Rattle.net.specs.Net.{list_below}
use Rattle.circuit.specs.Refusal.{passed}
use Rattle.circuit.specs.Refusal.{◌then◌}
use Rattle.circuit.specs.Circuit.{circuit}
use Rattle.circuit.specs.Checks.{check_length, check_records}
use Rattle.circuit.specs.Machine.{machine}
use Rattle.circuit.specs.Stimuli.{check_stimuli, stimuli}

pub record Run : Type 0 where
  pub records : List (List ℕ)
  pub stimuli : List (List ℕ)
  pub values : List ℕ

-- the table and the list of stimuli meet none of grounds 1, 2, 5 to 10 and 12 to 17, and the run ends in the values
abbrev pub RunHolds : List ℕ → ℕ → List ℕ → List ℕ → Type 0
RunHolds t n s values =
    (length t ≡ n * 16)
    × ((check_length (length t) then check_records t n then check_stimuli (circuit t n) s) ≡ passed)
    × (list_below (machine (circuit t n) (stimuli s)) n ≡ values)

abbrev pub RunsHold : List Run → Type 0
RunsHold [] = Unit {0}
RunsHold (r ∷ rs) =
    RunHolds (flatten r.records) (length r.records) (flatten r.stimuli) r.values × RunsHold rs

-- Document 000's figure 1, at width 8: in, en, rst, out, prev, t1, t2, t3, t4.
abbrev accumulator : List (List ℕ)
accumulator =
    (0 ∷ 8 ∷ 1 ∷ 0 ∷ 0 ∷ 0 ∷ 0 ∷ 0 ∷ 0 ∷ 0 ∷ 0 ∷ 0 ∷ 0 ∷ 0 ∷ 0 ∷ 0 ∷ [])
    ∷ (0 ∷ 1 ∷ 1 ∷ 0 ∷ 0 ∷ 0 ∷ 0 ∷ 0 ∷ 0 ∷ 0 ∷ 0 ∷ 0 ∷ 0 ∷ 0 ∷ 0 ∷ 0 ∷ [])
    ∷ (0 ∷ 1 ∷ 1 ∷ 0 ∷ 0 ∷ 0 ∷ 0 ∷ 0 ∷ 0 ∷ 0 ∷ 0 ∷ 0 ∷ 0 ∷ 0 ∷ 0 ∷ 0 ∷ [])
    ∷ (4 ∷ 8 ∷ 0 ∷ 0 ∷ 5 ∷ 0 ∷ 0 ∷ 0 ∷ 0 ∷ 0 ∷ 0 ∷ 0 ∷ 0 ∷ 0 ∷ 0 ∷ 0 ∷ [])
    ∷ (4 ∷ 8 ∷ 0 ∷ 0 ∷ 3 ∷ 0 ∷ 0 ∷ 0 ∷ 0 ∷ 0 ∷ 0 ∷ 0 ∷ 0 ∷ 0 ∷ 0 ∷ 0 ∷ [])
    ∷ (3 ∷ 8 ∷ 0 ∷ 0 ∷ 2 ∷ 0 ∷ 6 ∷ 0 ∷ 7 ∷ 0 ∷ 0 ∷ 0 ∷ 0 ∷ 0 ∷ 0 ∷ 0 ∷ [])
    ∷ (1 ∷ 8 ∷ 0 ∷ 0 ∷ 0 ∷ 0 ∷ 0 ∷ 0 ∷ 0 ∷ 0 ∷ 0 ∷ 0 ∷ 0 ∷ 0 ∷ 0 ∷ 0 ∷ [])
    ∷ (3 ∷ 8 ∷ 0 ∷ 0 ∷ 1 ∷ 0 ∷ 8 ∷ 0 ∷ 3 ∷ 0 ∷ 0 ∷ 0 ∷ 0 ∷ 0 ∷ 0 ∷ 0 ∷ [])
    ∷ (2 ∷ 8 ∷ 0 ∷ 0 ∷ 3 ∷ 0 ∷ 0 ∷ 0 ∷ 0 ∷ 0 ∷ 0 ∷ 0 ∷ 0 ∷ 0 ∷ 0 ∷ 0 ∷ [])
    ∷ []

-- poke en 1; poke in 2; tick; tick
abbrev accumulation : List (List ℕ)
accumulation =
    (0 ∷ 0 ∷ 1 ∷ 0 ∷ 1 ∷ 0 ∷ 0 ∷ 0 ∷ [])
    ∷ (0 ∷ 0 ∷ 0 ∷ 0 ∷ 2 ∷ 0 ∷ 0 ∷ 0 ∷ [])
    ∷ (1 ∷ 0 ∷ 0 ∷ 0 ∷ 0 ∷ 0 ∷ 0 ∷ 0 ∷ [])
    ∷ (1 ∷ 0 ∷ 0 ∷ 0 ∷ 0 ∷ 0 ∷ 0 ∷ 0 ∷ [])
    ∷ []

-- the accumulator after its first k stimuli
abbrev accumulated : ℕ → List ℕ → Run
accumulated k values = record { records = accumulator; stimuli = take k accumulation; values = values }

-- A fixed input; two registers that feed each other, of widths 8 and 4, so that the second narrows what it takes;
-- whether the first is less than the second; the first less the fixed input, at width 4.
abbrev exchange : List (List ℕ)
exchange =
    (0 ∷ 4 ∷ 0 ∷ 0 ∷ 0 ∷ 0 ∷ 0 ∷ 0 ∷ 0 ∷ 0 ∷ 0 ∷ 0 ∷ 9 ∷ 0 ∷ 0 ∷ 0 ∷ [])
    ∷ (4 ∷ 8 ∷ 0 ∷ 0 ∷ 2 ∷ 0 ∷ 0 ∷ 0 ∷ 0 ∷ 0 ∷ 0 ∷ 0 ∷ 19 ∷ 0 ∷ 0 ∷ 0 ∷ [])
    ∷ (4 ∷ 4 ∷ 0 ∷ 0 ∷ 1 ∷ 0 ∷ 0 ∷ 0 ∷ 0 ∷ 0 ∷ 0 ∷ 0 ∷ 5 ∷ 0 ∷ 0 ∷ 0 ∷ [])
    ∷ (2 ∷ 1 ∷ 6 ∷ 0 ∷ 1 ∷ 0 ∷ 2 ∷ 0 ∷ 0 ∷ 0 ∷ 0 ∷ 0 ∷ 0 ∷ 0 ∷ 0 ∷ 0 ∷ [])
    ∷ (2 ∷ 4 ∷ 1 ∷ 0 ∷ 1 ∷ 0 ∷ 0 ∷ 0 ∷ 0 ∷ 0 ∷ 0 ∷ 0 ∷ 0 ∷ 0 ∷ 0 ∷ 0 ∷ [])
    ∷ []

-- Two free inputs, data of width 16 and an enable of width 32. A register of width 8 with both, at power-on 7. A plain
-- register that takes the enable, and one at power-on 9 whose data and enable both are that register. A register that
-- takes the data and is its own enable, at power-on 4.
abbrev enables : List (List ℕ)
enables =
    (0 ∷ 16 ∷ 1 ∷ 0 ∷ 0 ∷ 0 ∷ 0 ∷ 0 ∷ 0 ∷ 0 ∷ 0 ∷ 0 ∷ 0 ∷ 0 ∷ 0 ∷ 0 ∷ [])
    ∷ (0 ∷ 32 ∷ 1 ∷ 0 ∷ 0 ∷ 0 ∷ 0 ∷ 0 ∷ 0 ∷ 0 ∷ 0 ∷ 0 ∷ 0 ∷ 0 ∷ 0 ∷ 0 ∷ [])
    ∷ (5 ∷ 8 ∷ 0 ∷ 0 ∷ 0 ∷ 0 ∷ 1 ∷ 0 ∷ 0 ∷ 0 ∷ 0 ∷ 0 ∷ 7 ∷ 0 ∷ 0 ∷ 0 ∷ [])
    ∷ (4 ∷ 32 ∷ 0 ∷ 0 ∷ 1 ∷ 0 ∷ 0 ∷ 0 ∷ 0 ∷ 0 ∷ 0 ∷ 0 ∷ 0 ∷ 0 ∷ 0 ∷ 0 ∷ [])
    ∷ (5 ∷ 32 ∷ 0 ∷ 0 ∷ 3 ∷ 0 ∷ 3 ∷ 0 ∷ 0 ∷ 0 ∷ 0 ∷ 0 ∷ 9 ∷ 0 ∷ 0 ∷ 0 ∷ [])
    ∷ (5 ∷ 8 ∷ 0 ∷ 0 ∷ 0 ∷ 0 ∷ 5 ∷ 0 ∷ 0 ∷ 0 ∷ 0 ∷ 0 ∷ 4 ∷ 0 ∷ 0 ∷ 0 ∷ [])
    ∷ []

-- tick; poke data 515; tick; tick; poke enable 2^31; tick; tick; poke enable 0; poke data 600; tick; tick; poke enable
-- 1; tick
abbrev enabling : List (List ℕ)
enabling =
    (1 ∷ 0 ∷ 0 ∷ 0 ∷ 0 ∷ 0 ∷ 0 ∷ 0 ∷ [])
    ∷ (0 ∷ 0 ∷ 0 ∷ 0 ∷ 3 ∷ 2 ∷ 0 ∷ 0 ∷ [])
    ∷ (1 ∷ 0 ∷ 0 ∷ 0 ∷ 0 ∷ 0 ∷ 0 ∷ 0 ∷ [])
    ∷ (1 ∷ 0 ∷ 0 ∷ 0 ∷ 0 ∷ 0 ∷ 0 ∷ 0 ∷ [])
    ∷ (0 ∷ 0 ∷ 1 ∷ 0 ∷ 0 ∷ 0 ∷ 0 ∷ 128 ∷ [])
    ∷ (1 ∷ 0 ∷ 0 ∷ 0 ∷ 0 ∷ 0 ∷ 0 ∷ 0 ∷ [])
    ∷ (1 ∷ 0 ∷ 0 ∷ 0 ∷ 0 ∷ 0 ∷ 0 ∷ 0 ∷ [])
    ∷ (0 ∷ 0 ∷ 1 ∷ 0 ∷ 0 ∷ 0 ∷ 0 ∷ 0 ∷ [])
    ∷ (0 ∷ 0 ∷ 0 ∷ 0 ∷ 88 ∷ 2 ∷ 0 ∷ 0 ∷ [])
    ∷ (1 ∷ 0 ∷ 0 ∷ 0 ∷ 0 ∷ 0 ∷ 0 ∷ 0 ∷ [])
    ∷ (1 ∷ 0 ∷ 0 ∷ 0 ∷ 0 ∷ 0 ∷ 0 ∷ 0 ∷ [])
    ∷ (0 ∷ 0 ∷ 1 ∷ 0 ∷ 1 ∷ 0 ∷ 0 ∷ 0 ∷ [])
    ∷ (1 ∷ 0 ∷ 0 ∷ 0 ∷ 0 ∷ 0 ∷ 0 ∷ 0 ∷ [])
    ∷ []

-- the registers with an enable after the first k stimuli
abbrev enabled_for : ℕ → List ℕ → Run
enabled_for k values = record { records = enables; stimuli = take k enabling; values = values }

-- An enable of 0 holds over ticks; one of 2^31 loads a register of width 8, and so does one of 1; data and an enable
-- that move at the tick are read as they were before; a register that is its own enable takes 0, and holds it for good.
abbrev pub enabled_runs : List Run
enabled_runs =
    enabled_for 0 (0 ∷ 0 ∷ 7 ∷ 0 ∷ 9 ∷ 4 ∷ [])
    ∷ enabled_for 1 (0 ∷ 0 ∷ 7 ∷ 0 ∷ 9 ∷ 0 ∷ [])
    ∷ enabled_for 4 (515 ∷ 0 ∷ 7 ∷ 0 ∷ 9 ∷ 0 ∷ [])
    ∷ enabled_for 6 (515 ∷ 2147483648 ∷ 3 ∷ 2147483648 ∷ 9 ∷ 0 ∷ [])
    ∷ enabled_for 7 (515 ∷ 2147483648 ∷ 3 ∷ 2147483648 ∷ 2147483648 ∷ 0 ∷ [])
    ∷ enabled_for 10 (600 ∷ 0 ∷ 3 ∷ 0 ∷ 2147483648 ∷ 0 ∷ [])
    ∷ enabled_for 11 (600 ∷ 0 ∷ 3 ∷ 0 ∷ 2147483648 ∷ 0 ∷ [])
    ∷ enabled_for 13 (600 ∷ 1 ∷ 88 ∷ 1 ∷ 2147483648 ∷ 0 ∷ [])
    ∷ []

-- An input fixed to 9, one fixed to 0, a free and a secret one, all of width 4. A register of width 8 that takes the
-- first, at power-on 7; the sum of the first and the register.
abbrev inputs : List (List ℕ)
inputs =
    (0 ∷ 4 ∷ 0 ∷ 0 ∷ 0 ∷ 0 ∷ 0 ∷ 0 ∷ 0 ∷ 0 ∷ 0 ∷ 0 ∷ 9 ∷ 0 ∷ 0 ∷ 0 ∷ [])
    ∷ (0 ∷ 4 ∷ 0 ∷ 0 ∷ 0 ∷ 0 ∷ 0 ∷ 0 ∷ 0 ∷ 0 ∷ 0 ∷ 0 ∷ 0 ∷ 0 ∷ 0 ∷ 0 ∷ [])
    ∷ (0 ∷ 4 ∷ 1 ∷ 0 ∷ 0 ∷ 0 ∷ 0 ∷ 0 ∷ 0 ∷ 0 ∷ 0 ∷ 0 ∷ 0 ∷ 0 ∷ 0 ∷ 0 ∷ [])
    ∷ (0 ∷ 4 ∷ 2 ∷ 0 ∷ 0 ∷ 0 ∷ 0 ∷ 0 ∷ 0 ∷ 0 ∷ 0 ∷ 0 ∷ 0 ∷ 0 ∷ 0 ∷ 0 ∷ [])
    ∷ (4 ∷ 8 ∷ 0 ∷ 0 ∷ 0 ∷ 0 ∷ 0 ∷ 0 ∷ 0 ∷ 0 ∷ 0 ∷ 0 ∷ 7 ∷ 0 ∷ 0 ∷ 0 ∷ [])
    ∷ (2 ∷ 8 ∷ 0 ∷ 0 ∷ 0 ∷ 0 ∷ 4 ∷ 0 ∷ 0 ∷ 0 ∷ 0 ∷ 0 ∷ 0 ∷ 0 ∷ 0 ∷ 0 ∷ [])
    ∷ []

-- tick; poke the first 9; tick; poke the second 0; poke the first 9; tick
abbrev poking : List (List ℕ)
poking =
    (1 ∷ 0 ∷ 0 ∷ 0 ∷ 0 ∷ 0 ∷ 0 ∷ 0 ∷ [])
    ∷ (0 ∷ 0 ∷ 0 ∷ 0 ∷ 9 ∷ 0 ∷ 0 ∷ 0 ∷ [])
    ∷ (1 ∷ 0 ∷ 0 ∷ 0 ∷ 0 ∷ 0 ∷ 0 ∷ 0 ∷ [])
    ∷ (0 ∷ 0 ∷ 1 ∷ 0 ∷ 0 ∷ 0 ∷ 0 ∷ 0 ∷ [])
    ∷ (0 ∷ 0 ∷ 0 ∷ 0 ∷ 9 ∷ 0 ∷ 0 ∷ 0 ∷ [])
    ∷ (1 ∷ 0 ∷ 0 ∷ 0 ∷ 0 ∷ 0 ∷ 0 ∷ 0 ∷ [])
    ∷ []

-- the inputs after the first k stimuli
abbrev poked : ℕ → List ℕ → Run
poked k values = record { records = inputs; stimuli = take k poking; values = values }

-- At power-on every input holds 0 and the register its power-on value. A fixed input that is not poked holds 0 over a
-- tick; poked, it has its number for good.
abbrev pub input_runs : List Run
input_runs =
    poked 0 (0 ∷ 0 ∷ 0 ∷ 0 ∷ 7 ∷ 7 ∷ [])
    ∷ poked 1 (0 ∷ 0 ∷ 0 ∷ 0 ∷ 0 ∷ 0 ∷ [])
    ∷ poked 2 (9 ∷ 0 ∷ 0 ∷ 0 ∷ 0 ∷ 9 ∷ [])
    ∷ poked 3 (9 ∷ 0 ∷ 0 ∷ 0 ∷ 9 ∷ 18 ∷ [])
    ∷ poked 6 (9 ∷ 0 ∷ 0 ∷ 0 ∷ 9 ∷ 18 ∷ [])
    ∷ []

abbrev pub runs : List Run
runs =
    accumulated 0 (0 ∷ 0 ∷ 0 ∷ 0 ∷ 0 ∷ 0 ∷ 0 ∷ 0 ∷ 0 ∷ [])
    ∷ accumulated 1 (0 ∷ 1 ∷ 0 ∷ 0 ∷ 0 ∷ 0 ∷ 0 ∷ 0 ∷ 0 ∷ [])
    ∷ accumulated 2 (2 ∷ 1 ∷ 0 ∷ 0 ∷ 0 ∷ 2 ∷ 0 ∷ 2 ∷ 2 ∷ [])
    ∷ accumulated 3 (2 ∷ 1 ∷ 0 ∷ 2 ∷ 0 ∷ 4 ∷ 0 ∷ 4 ∷ 4 ∷ [])
    ∷ accumulated 4 (2 ∷ 1 ∷ 0 ∷ 4 ∷ 2 ∷ 6 ∷ 0 ∷ 6 ∷ 6 ∷ [])
    ∷ record { records = exchange; stimuli = []; values = 0 ∷ 19 ∷ 5 ∷ 0 ∷ 3 ∷ [] }
    ∷ record {
      records = exchange;
      stimuli =
          (1 ∷ 0 ∷ 0 ∷ 0 ∷ 0 ∷ 0 ∷ 0 ∷ 0 ∷ []) ∷ (0 ∷ 0 ∷ 0 ∷ 0 ∷ 9 ∷ 0 ∷ 0 ∷ 0 ∷ []) ∷ [];
      values = 9 ∷ 5 ∷ 3 ∷ 0 ∷ 12 ∷ [];
    }
    ∷ []

pub runs_hold : RunsHold runs
unfolding flatten circuit check_records check_stimuli stimuli machine list_below
runs_hold = (
  (refl, refl, refl),
  (
    (refl, refl, refl),
    ((refl, refl, refl), ((refl, refl, refl), ((refl, refl, refl), ((refl, refl, refl), ((refl, refl, refl), tt))))),
  ),
)

pub enabled_runs_hold : RunsHold enabled_runs
unfolding flatten circuit check_records check_stimuli stimuli machine list_below
enabled_runs_hold = (
  (refl, refl, refl),
  (
    (refl, refl, refl),
    (
      (refl, refl, refl),
      ((refl, refl, refl), ((refl, refl, refl), ((refl, refl, refl), ((refl, refl, refl), ((refl, refl, refl), tt))))),
    ),
  ),
)

pub input_runs_hold : RunsHold input_runs
unfolding flatten circuit check_records check_stimuli stimuli machine list_below
input_runs_hold = (
  (refl, refl, refl),
  ((refl, refl, refl), ((refl, refl, refl), ((refl, refl, refl), ((refl, refl, refl), tt)))),
)

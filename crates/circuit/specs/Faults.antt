-- Refusals computed from bytes and lengths: every ground but 11 alone, with its place, and of every two that are tried
-- one after the other the first, but of 15 and 17, which are never met together. What is given has no fault; each fault
-- is a change to it.
-- Assumes nothing.
use Rattle.std.specs.Prelude.{◌≡◌, ℕ, ◌+◌, ◌*◌, ◌/◌, List, [], ◌∷◌, ◌++◌, map, length, replicate, slice_set, refl}
use mathlib.Core.List.{flatten}
use Rattle.std.proofs.Common.{arith}
use Rattle.net.specs.Tests.{member}
use Rattle.net.specs.Loop.{Loop}
use Rattle.circuit.specs.Refusal.{Check}
use Rattle.std.specs.Prelude.{Ok, Err}
use Rattle.circuit.specs.Refusal.{passed}
use Rattle.circuit.specs.Refusal.{ground_number, ◌then◌}
use Rattle.circuit.specs.Circuit.{circuit, graph}
use Rattle.circuit.specs.Checks.{check_records, check_call}
use Rattle.circuit.specs.Stimuli.{check_stimuli}

-- a table's bytes, how many numbers of output and of scratch are lent, and a list of stimuli in bytes
pub record Given : Type 0 where
  pub table : List ℕ
  pub output : ℕ
  pub scratch : ℕ
  pub stimuli : List ℕ

-- grounds 1 to 10, where one number of output and four of scratch are asked a record, then 12 to 17
abbrev pub found : Given → Check
found g =
    check_call g.table (record { lent = g.output; each = 1 } ∷ []) (record { lent = g.scratch; each = 4 })
    then check_stimuli (circuit g.table (length g.table / 16)) g.stimuli

-- an input fixed to 9 and a free one, of width 4; a register of width 8 that takes the free one, at power-on 5; its sum
-- with the free one; one of the two, as the fixed one says; the constant 5; a register that takes the sum where the
-- free one is not 0, at power-on 6
abbrev records : List (List ℕ)
records =
    (0 ∷ 4 ∷ 0 ∷ 0 ∷ 0 ∷ 0 ∷ 0 ∷ 0 ∷ 0 ∷ 0 ∷ 0 ∷ 0 ∷ 9 ∷ 0 ∷ 0 ∷ 0 ∷ [])
    ∷ (0 ∷ 4 ∷ 1 ∷ 0 ∷ 0 ∷ 0 ∷ 0 ∷ 0 ∷ 0 ∷ 0 ∷ 0 ∷ 0 ∷ 0 ∷ 0 ∷ 0 ∷ 0 ∷ [])
    ∷ (4 ∷ 8 ∷ 0 ∷ 0 ∷ 1 ∷ 0 ∷ 0 ∷ 0 ∷ 0 ∷ 0 ∷ 0 ∷ 0 ∷ 5 ∷ 0 ∷ 0 ∷ 0 ∷ [])
    ∷ (2 ∷ 8 ∷ 0 ∷ 0 ∷ 1 ∷ 0 ∷ 2 ∷ 0 ∷ 0 ∷ 0 ∷ 0 ∷ 0 ∷ 0 ∷ 0 ∷ 0 ∷ 0 ∷ [])
    ∷ (3 ∷ 8 ∷ 0 ∷ 0 ∷ 0 ∷ 0 ∷ 2 ∷ 0 ∷ 3 ∷ 0 ∷ 0 ∷ 0 ∷ 0 ∷ 0 ∷ 0 ∷ 0 ∷ [])
    ∷ (1 ∷ 8 ∷ 0 ∷ 0 ∷ 0 ∷ 0 ∷ 0 ∷ 0 ∷ 0 ∷ 0 ∷ 0 ∷ 0 ∷ 5 ∷ 0 ∷ 0 ∷ 0 ∷ [])
    ∷ (5 ∷ 8 ∷ 0 ∷ 0 ∷ 3 ∷ 0 ∷ 1 ∷ 0 ∷ 0 ∷ 0 ∷ 0 ∷ 0 ∷ 6 ∷ 0 ∷ 0 ∷ 0 ∷ [])
    ∷ []

abbrev pub constant : List ℕ
constant = 1 ∷ 1 ∷ 0 ∷ 0 ∷ 0 ∷ 0 ∷ 0 ∷ 0 ∷ 0 ∷ 0 ∷ 0 ∷ 0 ∷ 0 ∷ 0 ∷ 0 ∷ 0 ∷ []

abbrev tick : List ℕ
tick = 1 ∷ 0 ∷ 0 ∷ 0 ∷ 0 ∷ 0 ∷ 0 ∷ 0 ∷ []

-- the fixed input is poked with 9, the free one with 15, and a tick; as much is lent as is asked
abbrev good : Given
good =
    record {
      table = flatten records;
      output = 7;
      scratch = 28;
      stimuli =
          flatten
          ((0 ∷ 0 ∷ 0 ∷ 0 ∷ 9 ∷ 0 ∷ 0 ∷ 0 ∷ [])
          ∷ (0 ∷ 0 ∷ 1 ∷ 0 ∷ 15 ∷ 0 ∷ 0 ∷ 0 ∷ [])
          ∷ tick
          ∷ []);
    }

-- a change to what is given, document 01's number of the ground that it meets, and the place
pub record Fault : Type 0 where
  pub reason : ℕ
  pub place : ℕ
  pub made : Given → Given

-- a change to the table, to the list of stimuli, to what is lent
abbrev in_table : ℕ → ℕ → (List ℕ → List ℕ) → Fault
in_table reason place change =
    record {
      reason = reason;
      place = place;
      made = λ g.
          record { table = change g.table; output = g.output; scratch = g.scratch; stimuli = g.stimuli };
    }

abbrev in_stimuli : ℕ → ℕ → (List ℕ → List ℕ) → Fault
in_stimuli reason place change =
    record {
      reason = reason;
      place = place;
      made = λ g.
          record { table = g.table; output = g.output; scratch = g.scratch; stimuli = change g.stimuli };
    }

-- byte b of record i is x, and so of stimulus i
abbrev record_byte : ℕ → ℕ → ℕ → ℕ → Fault
record_byte reason i b x = in_table reason i (λ t. slice_set t (i * 16 + b) x)

abbrev stimulus_byte : ℕ → ℕ → ℕ → ℕ → Fault
stimulus_byte reason i b x = in_stimuli reason i (λ s. slice_set s (i * 8 + b) x)

-- a table of 4,097 records, 65,552 bytes, with as much lent as it asks
abbrev too_long : Fault
too_long =
    record {
      reason = 1;
      place = 0;
      made = λ g.
          record {
            table = g.table ++ flatten (replicate 4090 constant);
            output = 4097;
            scratch = 16388;
            stimuli = g.stimuli;
          };
    }

abbrev output_short : Fault
output_short =
    record {
      reason = 3;
      place = 0;
      made = λ g. record { table = g.table; output = 6; scratch = g.scratch; stimuli = g.stimuli };
    }

abbrev scratch_short : Fault
scratch_short =
    record {
      reason = 4;
      place = 0;
      made = λ g. record { table = g.table; output = g.output; scratch = 27; stimuli = g.stimuli };
    }

-- the register's value does not fit
abbrev value_too_wide : Fault
value_too_wide = record_byte 10 2 13 1

-- the poke of the free input names the register
abbrev not_an_input : Fault
not_an_input = stimulus_byte 15 1 2 2

-- that poke has the value 271
abbrev poke_too_wide : Fault
poke_too_wide = stimulus_byte 16 1 5 1

-- grounds 1 to 10 and 12 to 17, in checking order: 17 is tried before 16
abbrev faults : List Fault
faults =
    too_long
    ∷ in_table 2 0 (λ t. t ++ (0 ∷ []))
    ∷ output_short
    ∷ scratch_short
    -- the register: kind 6, width 33, byte 2, byte 3, A past the table
    ∷ record_byte 5 2 0 6
    ∷ record_byte 6 2 1 33
    ∷ record_byte 7 2 2 1
    ∷ record_byte 8 2 3 1
    ∷ record_byte 9 2 4 7
    ∷ value_too_wide
    ∷ in_stimuli 12 0 (λ s. s ++ (0 ∷ []))
    ∷ in_stimuli 13 0 (λ s. s ++ flatten (replicate 4094 tick))
    -- the poke of the free input: byte 1, the register's number, the fixed one's number, 271
    ∷ stimulus_byte 14 1 1 1
    ∷ not_an_input
    ∷ stimulus_byte 17 1 2 0
    ∷ poke_too_wide
    ∷ []

-- the sum uses itself: a loop of one, which no check finds
abbrev pub loop : Fault
loop = in_table 11 1 (λ t. slice_set t (3 * 16 + 4) 3)

-- a list of 4,096 stimuli, which meets no ground
abbrev full_list : Fault
full_list = in_stimuli 0 0 (λ s. s ++ flatten (replicate 4093 tick))

-- a row of faults: the last made first
abbrev pub with : List Fault → Given
with [] = good
with (f ∷ fs) = f.made (with fs)

-- what a check finds, by the ground's number, and the place; nothing where it passes
abbrev pub told : Check → List ℕ
told (Ok u) = []
told (Err r) = ground_number r.reason ∷ r.place ∷ []

-- the first fault of a row, told alike
abbrev pub first_of : List Fault → List ℕ
first_of [] = []
first_of (f ∷ fs) = f.reason ∷ f.place ∷ []

abbrev alone : Fault → List Fault
alone f = f ∷ []

-- each with the one that is tried next
abbrev neighbours : List Fault → List (List Fault)
neighbours [] = []
neighbours (f ∷ []) = []
neighbours (f ∷ g ∷ fs) = (f ∷ g ∷ []) ∷ neighbours (g ∷ fs)

-- What else a ground is about. Other grounds may hold too; the one that is named is tried first.
abbrev others : List Fault
others =
    in_table 2 0 (λ t. t ++ replicate 8 0)
    -- 4,096 records are not too many
    ∷ in_table 3 0 (λ t. t ++ flatten (replicate 4089 constant))
    ∷ record_byte 6 3 1 0
    -- byte 2 of an input, an operator, a multiplexer, a constant, a register with an enable
    ∷ record_byte 7 1 2 3
    ∷ record_byte 7 3 2 9
    ∷ record_byte 7 4 2 1
    ∷ record_byte 7 5 2 1
    ∷ record_byte 7 6 2 1
    -- bytes 10 and 11; what each kind does not use
    ∷ record_byte 8 2 10 1
    ∷ record_byte 8 2 11 1
    ∷ record_byte 8 0 4 1
    ∷ record_byte 8 1 12 1
    ∷ record_byte 8 2 6 1
    ∷ record_byte 8 2 8 1
    ∷ record_byte 8 3 8 1
    ∷ record_byte 8 3 12 1
    ∷ record_byte 8 4 12 1
    ∷ record_byte 8 5 4 1
    ∷ record_byte 8 6 8 1
    -- what each kind uses, and the high byte of A
    ∷ record_byte 9 2 5 1
    ∷ record_byte 9 3 4 7
    ∷ record_byte 9 3 6 7
    ∷ record_byte 9 4 4 7
    ∷ record_byte 9 4 6 7
    ∷ record_byte 9 4 8 7
    ∷ record_byte 9 6 4 7
    ∷ record_byte 9 6 6 7
    -- the value of a fixed input, of a register with an enable, of a constant, and its high bytes
    ∷ record_byte 10 0 12 16
    ∷ record_byte 10 6 13 1
    ∷ record_byte 10 5 13 1
    ∷ record_byte 10 5 14 1
    ∷ record_byte 10 5 15 1
    ∷ in_stimuli 12 0 (λ s. s ++ replicate 4 0)
    -- kind 2; a tick's variable and value
    ∷ stimulus_byte 14 2 0 2
    ∷ stimulus_byte 14 2 2 1
    ∷ stimulus_byte 14 2 3 1
    ∷ stimulus_byte 14 2 4 1
    ∷ stimulus_byte 14 2 7 1
    -- the sum, the multiplexer, the constant, the register with an enable, and no variable
    ∷ stimulus_byte 15 1 2 3
    ∷ stimulus_byte 15 1 2 4
    ∷ stimulus_byte 15 1 2 5
    ∷ stimulus_byte 15 1 2 6
    ∷ stimulus_byte 15 1 2 7
    ∷ stimulus_byte 15 1 3 1
    -- 16, and the value's high bytes
    ∷ stimulus_byte 16 1 4 16
    ∷ stimulus_byte 16 1 6 1
    ∷ stimulus_byte 16 1 7 1
    -- 8 and 10 into the input that is fixed to 9, and what does not fit it: 16, 25, whose low four bits are 9, 9 + 2^24
    ∷ stimulus_byte 17 0 4 8
    ∷ stimulus_byte 17 0 4 10
    ∷ stimulus_byte 17 0 4 16
    ∷ stimulus_byte 17 0 4 25
    ∷ stimulus_byte 17 0 7 1
    ∷ []

-- the free input is secret, which meets no ground
abbrev secret_input : Fault
secret_input = record_byte 0 1 2 2

-- The last ground of a record is tried before the first of the next one, and so of a stimulus. Ground 10 is found where
-- there is a loop, too. 4,096 stimuli are not too many. A value that is too wide for the register is refused on 15, which
-- is tried before 16; one that is too wide for a secret input is refused on 16.
abbrev pub refusals : List (List Fault)
refusals =
    []
    ∷ (map alone faults
    ++ (neighbours faults
    ++ (map alone others
    ++ ((value_too_wide ∷ record_byte 5 3 0 6 ∷ [])
    ∷ (poke_too_wide ∷ stimulus_byte 14 2 1 1 ∷ [])
    ∷ (value_too_wide ∷ loop ∷ [])
    ∷ (stimulus_byte 14 0 1 1 ∷ full_list ∷ [])
    ∷ (not_an_input ∷ poke_too_wide ∷ [])
    ∷ (poke_too_wide ∷ secret_input ∷ [])
    ∷ []))))

-- of all faults of a row the first is found; of none nothing
pub refusals_hold : map (λ row. told (found (with row))) refusals ≡ map first_of refusals
unfolding flatten check_records check_stimuli circuit
refusals_hold = refl

-- the fault that is left to ground 11 is a loop, and no other ground finds it
pub loop_left : (found (with (loop ∷ [])) ≡ passed) × Loop (graph (circuit (with (loop ∷ [])).table 7)) (3 ∷ [])
unfolding flatten check_records check_stimuli circuit member
loop_left = (
  refl,
  record {
    some = omega arith;
    wires = λ i h. let first : i ≡ 0 = omega arith in rw first (omega arith, refl);
    distinct = λ i j h k e. omega arith;
    next = λ i h. absurd (omega arith);
    back = tt;
  },
)

-- What a call on a table promises, over what is lent to it, what it leaves there and its answer. A call is given by
-- what it asks, what it checks after ground 11, and what holds of its outputs where it accepts.
-- Assumes nothing.
use Rattle.std.specs.Prelude.{◌≡◌, ◌⊎◌, Result, Ok, Err, List, [], ◌∷◌, ◌++◌, ℕ, ◌-◌, ◌*◌, ◌/◌, length, drop, replicate}
use Rattle.net.specs.Loop.{Loop, LowestFirst}
use Rattle.circuit.specs.declared.refusal.Ground.{Ground}
use Rattle.circuit.specs.declared.refusal.Refusal.{Refusal}
use Rattle.circuit.specs.Refusal.{ground_number, Check, passed, Finds}
use Rattle.circuit.specs.Circuit.{Circuit, circuit, graph, NoLoop}
use Rattle.circuit.specs.Checks.{Asked, check_call}

-- what is lent to a call on a table: the table's bytes, its outputs in order and its scratch, as they are at entry
pub record Lent : Type 0 where
  pub table : List ℕ
  pub outputs : List (List ℕ)
  pub scratch : List ℕ

-- its outputs and its scratch as it leaves them
pub record Left : Type 0 where
  pub outputs : List (List ℕ)
  pub scratch : List ℕ

-- the answer: accepted, with the number that the answer carries (0 where it carries none), or a ground with its place
abbrev pub Answer : Type 0
Answer = Result ℕ Refusal

abbrev pub accepted : ℕ → Answer
accepted k = Ok k

abbrev pub refused : Ground → ℕ → Answer
refused reason place = Err (record { reason = reason; place = place })

-- a call: how much it asks a record of each output in turn, for ground 3 (of those past the list it asks nothing), and
-- of its scratch; what it checks after ground 11; what holds of its outputs where it accepts with a number
pub record Call : Type 1 where
  pub asks : List ℕ
  pub room : ℕ
  pub later : Lent → Check
  pub Accepts : Lent → List (List ℕ) → ℕ → Type 0

-- what is lent to a call with one output
abbrev pub lent : List ℕ → List ℕ → List ℕ → Lent
lent table output scratch = record { table = table; outputs = output ∷ []; scratch = scratch }

-- what it leaves
abbrev pub left : List ℕ → List ℕ → Left
left output scratch = record { outputs = output ∷ []; scratch = scratch }

-- the output of a call that has one
abbrev pub output_of : List (List ℕ) → List ℕ
output_of [] = []
output_of (output ∷ others) = output

-- the number of records
abbrev pub size : Lent → ℕ
size l = length l.table / 16

-- the table's circuit
abbrev pub circuit_of : Lent → Circuit
circuit_of l = circuit l.table (size l)

-- what is asked of each output: a call is lent at least as many as it asks something of
abbrev pub asked : List ℕ → List (List ℕ) → List Asked
asked [] outputs = []
asked (each ∷ asks) [] = []
asked (each ∷ asks) (output ∷ outputs) = record { lent = length output; each = each } ∷ asked asks outputs

module _ (call : Call) (l : Lent) where
  -- grounds 1 to 10
  abbrev pub checked : Check
  checked =
      check_call l.table (asked call.asks l.outputs)
      (record { lent = length l.scratch; each = call.room })

  -- how much of the scratch is asked
  abbrev pub part : ℕ
  part = size l * call.room

  -- the scratch with some numbers at the front of its part and zeros behind them; what lies past the part is as it was
  abbrev pub scratch_with : List ℕ → List ℕ
  scratch_with front = front ++ (replicate (part - length front) 0 ++ drop part l.scratch)

  -- the scratch with its part cleared; what lies past the part is as it was
  abbrev pub scratch_cleared : List ℕ
  scratch_cleared = replicate part 0 ++ drop part l.scratch

  -- one of grounds 1 to 10, by its number, is the first that holds, and every buffer is as it was
  pub record TurnedDown (e : Left) (number place : ℕ) : Type 0 where
    pub first : Finds checked number place
    pub outputs : e.outputs ≡ l.outputs
    pub scratch : e.scratch ≡ l.scratch

  -- none of 1 to 10 holds, and the scratch shows a loop, its lowest variable first; the place is its length; the
  -- outputs are as they were
  pub record LoopShown (e : Left) (place : ℕ) : Type 0 where
    pub passed : checked ≡ passed
    pub row : List ℕ
    pub loop : Loop (graph (circuit_of l)) row
    pub lowest : LowestFirst row
    pub row_length : length row ≡ place
    pub outputs : e.outputs ≡ l.outputs
    pub scratch : e.scratch ≡ scratch_with row

  -- none of 1 to 11 holds, and the scratch's part is 0
  pub record PastEleven (e : Left) : Type 0 where
    pub passed : checked ≡ passed
    pub no_loop : NoLoop (circuit_of l)
    pub scratch : e.scratch ≡ scratch_cleared

  -- none of 1 to 11 holds, and a ground that is tried after 11, by its number, is the first that holds; the outputs are
  -- as they were
  pub record RefusedLater (e : Left) (number place : ℕ) : Type 0 where
    pub past : PastEleven e
    pub first : Finds (call.later l) number place
    pub outputs : e.outputs ≡ l.outputs

  -- no ground holds, and the outputs are what the call says of the number in its answer
  pub record AcceptedWith (e : Left) (k : ℕ) : Type 0 where
    pub past : PastEleven e
    pub later : call.later l ≡ passed
    pub accepts : call.Accepts l e.outputs k

-- the promise of a call: what holds of what is left, by what is answered
abbrev pub Promises : Call → Lent → Left → Answer → Type 0
Promises call l e (Ok k) = AcceptedWith call l e k
Promises call l e (Err r) =
    TurnedDown call l e (ground_number r.reason) r.place
    ⊎ (((ground_number r.reason ≡ 11) × LoopShown call l e r.place)
    ⊎ RefusedLater call l e (ground_number r.reason) r.place)

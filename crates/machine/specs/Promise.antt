-- The bench call: what it asks, and what values an accepted list leaves. Its promise is that of every call on a table.
-- Assumes nothing.
use Rattle.std.specs.Prelude.{◌≡◌, refl, List, [], ◌∷◌, ◌++◌, ℕ, drop}
use Rattle.net.specs.Net.{list_below}
use Rattle.circuit.specs.Checks.{check_records}
use Rattle.circuit.specs.Machine.{machine}
use Rattle.circuit.specs.Stimuli.{check_stimuli, stimuli}
use Rattle.call.specs.Call.{Lent, Left, Answer, accepted, Call, output_of, size, circuit_of, Promises}
use Rattle.call.specs.Asks.{found_of}
use Rattle.std.specs.Prelude.{Result}
use Rattle.circuit.specs.declared.refusal.Refusal.{Refusal}
use Rattle.std.specs.Prelude.{Ok, Err}

-- what the bench call asks a record: 32-bit numbers of the values, and 16-bit numbers of scratch
abbrev pub each : ℕ
each = 1

abbrev pub room : ℕ
room = 4

-- on a list of stimuli in bytes
module _ (s : List ℕ) where
  -- the answer carries no number, which is 0 in the packed answer too, and the values' part is the machine's state
  -- after the last stimulus; what lies past it is as it was
  pub record Ran (l : Lent) (outputs : List (List ℕ)) (k : ℕ) : Type 0 where
    pub no_number : k ≡ 0
    pub values : outputs
        ≡ (list_below (machine (circuit_of l) (stimuli s)) (size l) ++ drop (size l) (output_of l.outputs)) ∷ []

  -- the bench call; after ground 11 it tries 12 to 17 on the list
  abbrev pub benching : Call
  benching = record { asks = each ∷ []; room = room; later = λ l. check_stimuli (circuit_of l) s; Accepts = Ran }

-- its answer as every call has one
abbrev pub answer_of : Result Unit Refusal → Answer
answer_of (Ok u) = accepted 0
answer_of (Err r) = Err r

-- the promise: what holds of the buffers and the answer
abbrev pub Benches : List ℕ → Lent → Left → Result Unit Refusal → Type 0
Benches s l e r = Promises (benching s) l e (answer_of r)

-- what it asks, computed: of a table of one record one number and four of scratch, and one less of either is refused
pub asks_hold : (found_of (benching []) 0 4 ∷ found_of (benching []) 1 3 ∷ found_of (benching []) 1 4 ∷ [])
    ≡ (3 ∷ 0 ∷ []) ∷ (4 ∷ 0 ∷ []) ∷ [] ∷ []
unfolding check_records
asks_hold = refl

-- The trimming call: what it asks, and what an accepted call leaves in both outputs. Its promise is that of every call
-- on a table.
-- Assumes nothing.
use Rattle.std.specs.Prelude.{◌≡◌, refl, ℕ, ◌*◌, length, drop}
use mathlib.Core.List.{List, [], ◌∷◌, ◌++◌, flat_map}
use Rattle.circuit.specs.Reading.{record_bytes}
use Rattle.circuit.specs.Circuit.{Circuit}
use Rattle.circuit.specs.Checks.{check_records}
use Rattle.fact.specs.Fact.{fact_at}
use Rattle.call.specs.Call.{Lent, Left, Answer, Call, output_of, circuit_of, Promises}
use Rattle.call.specs.Asks.{found_of}
use Rattle.trim.specs.Trimmed.{replaced, survivors, trimmed}
use Rattle.trim.specs.Order.{check_trim}

-- what the trimming call asks a record: 16-bit numbers of scratch; ground 21 asks for its outputs
abbrev pub room : ℕ
room = 4

-- what is lent to a call with two outputs
abbrev pub lent : List ℕ → List ℕ → List ℕ → List ℕ → Lent
lent table first second scratch = record { table = table; outputs = first ∷ second ∷ []; scratch = scratch }

-- what it leaves
abbrev pub left : List ℕ → List ℕ → List ℕ → Left
left first second scratch = record { outputs = first ∷ second ∷ []; scratch = scratch }

-- the second output
abbrev pub second_of : List (List ℕ) → List ℕ
second_of [] = []
second_of (first ∷ others) = output_of others

-- by a certificate's bytes, with the kept variables
module _ (certificate kept : List ℕ) where
  -- the table's circuit, with what the certificate calls always as constants
  abbrev pub called : Lent → Circuit
  called l = replaced (circuit_of l) (fact_at certificate)

  -- the answer carries the number of survivors; the trimmed circuit's records stand in the first output, the survivors'
  -- old numbers in the second, and what lies past them is as it was
  pub record Trims (l : Lent) (outputs : List (List ℕ)) (k : ℕ) : Type 0 where
    pub count : k ≡ length (survivors (called l) kept)
    pub written : outputs
        ≡ (flat_map record_bytes (trimmed (called l) kept) ++ drop (k * 16) (output_of l.outputs))
        ∷ (survivors (called l) kept ++ drop k (second_of l.outputs))
        ∷ []

  -- the trimming call; it tries no ground 3, and after ground 11 it tries 20, 21 and 22
  abbrev pub trimming : Call
  trimming =
      record {
        asks = [];
        room = room;
        later = λ l.
            check_trim (length l.table) (circuit_of l) certificate kept (length (output_of l.outputs))
            (length (second_of l.outputs));
        Accepts = Trims;
      }

-- the promise: what holds of the buffers and the answer
abbrev pub CallTrims : List ℕ → List ℕ → Lent → Left → Answer → Type 0
CallTrims certificate kept l e r = Promises (trimming certificate kept) l e r

-- what it asks before ground 11, computed: of a table of one record four numbers of scratch, one less is refused, and
-- nothing of an output, which ground 3 would ask for
pub asks_hold : (found_of (trimming [] []) 0 3 ∷ found_of (trimming [] []) 0 4 ∷ []) ≡ (4 ∷ 0 ∷ []) ∷ [] ∷ []
unfolding check_records
asks_hold = refl

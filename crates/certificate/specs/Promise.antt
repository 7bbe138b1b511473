-- The certifying call: what it asks, and what an accepted table's certificate is. Its promise is that of every call on
-- a table.
-- Assumes nothing.
use Rattle.std.specs.Prelude.{◌≡◌, refl, ℕ, ◌*◌, ◌≤◌, drop}
use mathlib.Core.List.{List, [], ◌∷◌, ◌++◌, flat_map}
use Rattle.net.specs.Net.{list_below, after, Counts}
use Rattle.circuit.specs.Refusal.{passed}
use Rattle.circuit.specs.Circuit.{Circuit, graph}
use Rattle.circuit.specs.Checks.{check_records}
use Rattle.fact.specs.Fact.{fact_bytes, fact_at}
use Rattle.fact.specs.Rule.{rule}
use Rattle.fact.specs.Certificate.{LeastStore, initial_store, registers}
use Rattle.call.specs.Call.{Lent, Left, Answer, Call, output_of, size, circuit_of, Promises}
use Rattle.call.specs.Asks.{found_of}

-- what the certifying call asks a record: bytes of the certificate, and 16-bit numbers of scratch
abbrev pub each : ℕ
each = 8

abbrev pub room : ℕ
room = 2

module _ (l : Lent) where
  abbrev c : Circuit
  c = circuit_of l

  -- the certificate's part is that of the store after k rounds, which is the least closed one; what lies past it is as
  -- it was
  pub record Certificate (outputs : List (List ℕ)) (k : ℕ) : Type 0 where
    pub counts : Counts (graph c) (rule c) (initial_store c) k
    pub few : k ≤ 2 * registers c
    pub certificate : outputs
        ≡ (flat_map fact_bytes (list_below (after (graph c) (rule c) k (initial_store c)) (size l))
        ++ drop (size l * each) (output_of l.outputs))
        ∷ []
    pub least : LeastStore c (fact_at (output_of outputs))

-- the certifying call; ground 11 is its last
abbrev pub certifying : Call
certifying = record { asks = each ∷ []; room = room; later = λ l. passed; Accepts = Certificate }

-- the promise: what holds of the buffers and the answer
abbrev pub Certifies : Lent → Left → Answer → Type 0
Certifies l e r = Promises certifying l e r

-- what it asks, computed: of a table of one record 8 bytes and two numbers, and one less of either is refused
pub asks_hold : (found_of certifying 7 2 ∷ found_of certifying 8 1 ∷ found_of certifying 8 2 ∷ [])
    ≡ (3 ∷ 0 ∷ []) ∷ (4 ∷ 0 ∷ []) ∷ [] ∷ []
unfolding check_records
asks_hold = refl

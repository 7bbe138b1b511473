-- The path call: what it asks, ground 23, and what an accepted call leaves in the row. Its promise is that of every
-- call on a table.
-- Assumes nothing.
use Rattle.std.specs.Prelude.{◌≡◌, refl, not, ◌&&◌, List, [], ◌∷◌, ◌++◌, ℕ, ◌≤◌, ltb, length, drop}
use Rattle.circuit.specs.declared.refusal.Ground.TheVariants.{NotMarked}
use Rattle.circuit.specs.Refusal.{Check, passed, refuse}
use Rattle.circuit.specs.Circuit.{Circuit}
use Rattle.circuit.specs.Checks.{check_records}
use Rattle.fact.specs.Certificate.{LeastStore, certificate}
use Rattle.call.specs.Call.{Lent, Left, Answer, Call, output_of, size, circuit_of, Promises}
use Rattle.call.specs.Asks.{found_of}
use Rattle.path.specs.Row.{is_marked, PathOf}

-- what the path call asks a record: 16-bit numbers of the row, and of scratch
abbrev pub each : ℕ
each = 1

abbrev pub room : ℕ
room = 8

-- ground 23 of variable v: it does not exist, or the certificate does not call it marked; its place is the number given
abbrev pub check_marked : Circuit → ℕ → Check
check_marked c v = refuse NotMarked v (not (ltb v (length c) && is_marked (certificate c v))) passed

-- of variable v
module _ (v : ℕ) where
  -- the answer carries the length of v's path under the certificate, which is the least closed store, at most one a
  -- record; the path stands in the row, and what lies past it is as it was
  pub record Traces (l : Lent) (outputs : List (List ℕ)) (k : ℕ) : Type 0 where
    pub row : List ℕ
    pub least : LeastStore (circuit_of l) (certificate (circuit_of l))
    pub path : PathOf (circuit_of l) (certificate (circuit_of l)) v row
    pub row_length : length row ≡ k
    pub fits : k ≤ size l
    pub written : outputs ≡ (row ++ drop k (output_of l.outputs)) ∷ []

  -- the path call; after ground 11 it tries 23
  abbrev pub tracing : Call
  tracing =
      record { asks = each ∷ []; room = room; later = λ l. check_marked (circuit_of l) v; Accepts = Traces }

-- the promise: what holds of the buffers and the answer
abbrev pub CallTraces : ℕ → Lent → Left → Answer → Type 0
CallTraces v l e r = Promises (tracing v) l e r

-- what it asks, computed: of a table of one record one number of the row and eight of scratch, and one less of either
-- is refused
pub asks_hold : (found_of (tracing 0) 0 8 ∷ found_of (tracing 0) 1 7 ∷ found_of (tracing 0) 1 8 ∷ [])
    ≡ (3 ∷ 0 ∷ []) ∷ (4 ∷ 0 ∷ []) ∷ [] ∷ []
unfolding check_records
asks_hold = refl

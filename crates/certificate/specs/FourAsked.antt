-- The certifying call with four numbers of scratch asked a record. It stands here for request S-9's comparison with
-- the one that asks two, and for nothing else.
-- Assumes nothing.
use Rattle.std.specs.Prelude.{◌≡◌, refl, [], ◌∷◌}
use Rattle.circuit.specs.Checks.{check_records}
use Rattle.call.specs.Call.{Lent, Left, Answer, Call, Promises}
use Rattle.call.specs.Asks.{found_of}
use Rattle.call.specs.Rooms.{with_room}
use Rattle.certificate.specs.Promise.{certifying}

-- the call that asks four
abbrev pub asking_four : Call
asking_four = with_room 4 certifying

-- its promise
abbrev pub CertifiesInFour : Lent → Left → Answer → Type 0
CertifiesInFour l e r = Promises asking_four l e r

-- what it asks, computed: of a table of one record 8 bytes and four numbers, and one less of either is refused
pub asks_hold : (found_of asking_four 7 4 ∷ found_of asking_four 8 3 ∷ found_of asking_four 8 4 ∷ [])
    ≡ (3 ∷ 0 ∷ []) ∷ (4 ∷ 0 ∷ []) ∷ [] ∷ []
unfolding check_records
asks_hold = refl

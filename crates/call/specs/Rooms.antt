-- Calls that differ in nothing but how much scratch they ask, and what two such calls have in common.
-- Assumes nothing.
use Rattle.std.specs.Prelude.{◌≡◌, ◌⊎◌, Ok, Err, List, ℕ}
use Rattle.circuit.specs.Refusal.{ground_number}
use Rattle.call.specs.Call.{Lent, Left, Answer, Call}

-- the call with so many numbers of scratch asked a record
abbrev pub with_room : ℕ → Call → Call
with_room room call = record { asks = call.asks; room = room; later = call.later; Accepts = call.Accepts }

-- the same table and outputs, and another scratch
abbrev pub with_scratch : List ℕ → Lent → Lent
with_scratch scratch l = record { table = l.table; outputs = l.outputs; scratch = scratch }

-- what a call checks after ground 11, and what holds where it accepts, does not go by which of the two is its scratch
pub record IgnoresScratch (call : Call) (l : Lent) (scratch : List ℕ) : Type 0 where
  pub later : call.later l ≡ call.later (with_scratch scratch l)
  pub accepts : (outputs : List (List ℕ)) (k : ℕ) → call.Accepts l outputs k
      → call.Accepts (with_scratch scratch l) outputs k

-- an answer is a refusal on ground 11
abbrev pub RefusedLoop : Answer → Type 0
RefusedLoop (Ok k) = ⊥
RefusedLoop (Err r) = ground_number r.reason ≡ 11

-- equal outputs are left, and the answers are equal, or both are ground 11
pub record SameButLoop (e e' : Left) (a a' : Answer) : Type 0 where
  pub outputs : e.outputs ≡ e'.outputs
  pub answers : (a ≡ a') ⊎ (RefusedLoop a × RefusedLoop a')

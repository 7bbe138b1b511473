-- An answer as one number, for C: the number that it carries, else ground * 2^32 + place. The promise is the whole
-- promise of the call, of the one answer that has this number.
-- Assumes nothing.
use Rattle.std.specs.Prelude.{◌≡◌, Ok, Err, ℕ, ◌+◌, ◌-◌, ◌*◌, ◌^◌, ◌<◌, min}
use Rattle.circuit.specs.Refusal.{ground_number}
use Rattle.call.specs.Call.{Lent, Left, Answer, accepted, refused, Call, Promises}

-- the number of an answer
abbrev pub packed : Answer → ℕ
packed (Ok k) = k
packed (Err r) = ground_number r.reason * 2 ^ 32 + r.place

-- the number that it carries, or the place, takes no more than the lower 32 bits
abbrev pub Low : Answer → Type 0
Low (Ok k) = k < 2 ^ 32
Low (Err r) = r.place < 2 ^ 32

-- what is promised of an answer, of the one answer with this number
pub record PackedOf (Promised : Answer → Type 0) (r : ℕ) : Type 0 where
  pub answer : Answer
  pub low : Low answer
  pub is : r ≡ packed answer
  pub promises : Promised answer

-- a call's promise of the answer with this number
abbrev pub PromisesPacked : Call → Lent → Left → ℕ → Type 0
PromisesPacked call l e r = PackedOf (Promises call l e) r

-- an answer as 32 bits tell it: a place that needs more is told as 2^32 - 1
abbrev pub cut : Answer → Answer
cut (Ok k) = accepted k
cut (Err r) = refused r.reason (min r.place (2 ^ 32 - 1))

-- what is promised of an answer whose place may need more, of one that has this number once it is cut
pub record CutOf (Promised : Answer → Type 0) (r : ℕ) : Type 0 where
  pub answer : Answer
  pub low : Low (cut answer)
  pub is : r ≡ packed (cut answer)
  pub promises : Promised answer

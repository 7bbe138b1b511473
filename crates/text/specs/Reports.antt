-- The promise of a call for a program that reads its output's own bytes: the call's own promise, and what is told of
-- its answer.
-- Assumes nothing.
use Rattle.std.specs.Prelude.{◌≡◌, List, ◌++◌, ℕ, ◌*◌, ◌≤◌, take, Result, Ok, Err}
use Rattle.call.specs.Call.{Lent, Left, Answer, Call, size, Promises}
use Rattle.text.specs.Text.{refusal_line}

-- of an accepted answer, how many bytes its output has, and no line is put; of a refusal, where its line begins, which
-- fills the rest: what lies before is as it was
abbrev pub Tells : Answer → ℕ → List ℕ → List ℕ → Result ℕ ℕ → Type 0
Tells (Ok k) bytes line line-exit (Ok count) = (count ≡ bytes) × (line-exit ≡ line)
Tells (Ok k) bytes line line-exit (Err r) = ⊥
Tells (Err refusal) bytes line line-exit (Ok count) = ⊥
Tells (Err refusal) bytes line line-exit (Err r) =
    line-exit ≡ take r line ++ refusal_line refusal.reason refusal.place

-- what is told stands in buffers of these lengths
abbrev pub Within : Result ℕ ℕ → ℕ → ℕ → Type 0
Within (Ok count) output line = count ≤ output
Within (Err r) output line = r ≤ line

-- what is told is of an answer of which something is promised: its output has so many bytes
pub record BytesOf (Promised : Answer → Type 0) (bytes : Answer → ℕ) (line line-exit : List ℕ)
    (r : Result ℕ ℕ) : Type 0 where
  pub answer : Answer
  pub promises : Promised answer
  pub tells : Tells answer (bytes answer) line line-exit r

-- what is told is of the answer of which the call's promise holds: `each` bytes a record
abbrev pub PromisesInBytes : Call → ℕ → Lent → Left → List ℕ → List ℕ → Result ℕ ℕ → Type 0
PromisesInBytes call each l e line line-exit r = BytesOf (Promises call l e) (λ _. size l * each) line line-exit r

-- how many bytes an answer's output has that carries the number of records written: 16 a record, and none of a refusal
abbrev pub written_bytes : Answer → ℕ
written_bytes (Ok k) = k * 16
written_bytes (Err r) = 0

-- The promise of a call with its text: the call's own promise, and the text of its answer.
-- Assumes nothing.
use Rattle.std.specs.Prelude.{◌≡◌, Ok, Err, List, ◌++◌, ℕ, ◌*◌, ◌≤◌, take}
use Rattle.circuit.specs.declared.refusal.Ground.{Ground}
use Rattle.circuit.specs.Refusal.{ground_number}
use Rattle.call.specs.Call.{Lent, Left, Answer, Call, output_of, size, Promises}
use Rattle.bill.specs.Order.{most_sizes}
use Rattle.text.specs.Text.{answer_text}

-- a row of so many numbers stands in a buffer of a length, and its line fits
abbrev pub RowStands : ℕ → ℕ → Type 0
RowStands size buffer = (1 ≤ size) × (size ≤ buffer) × (size ≤ 4096)

-- for ground 11, the row stands in the scratch and its line fits
abbrev pub ShowsRow : Ground → ℕ → ℕ → Type 0
ShowsRow g place scratch = ground_number g ≡ 11 → RowStands place scratch

-- what an answer shows stands in buffers of these lengths: `each` of the output a record where it is accepted
abbrev pub AnswerStands : ℕ → Answer → ℕ → ℕ → ℕ → Type 0
AnswerStands each (Ok k) n output scratch = (n ≤ 4096) × (n * each ≤ output)
AnswerStands each (Err r) n output scratch = ShowsRow r.reason r.place scratch

-- what the path call's answer shows stands in buffers of these lengths: the path in the row
abbrev pub PathStands : Answer → ℕ → ℕ → Type 0
PathStands (Ok k) row scratch = RowStands k row
PathStands (Err r) row scratch = ShowsRow r.reason r.place scratch

-- what an order's answer shows stands in a buffer of so many shares: one a size; a refusal shows no row
abbrev pub BillStands : Answer → ℕ → ℕ → Type 0
BillStands (Ok k) n shares = (n ≤ most_sizes) × (n ≤ shares)
BillStands (Err r) n shares = ground_number r.reason ≡ 11 → ⊥

-- the text of an answer of which something is promised fills `out` from r on; what lies before is as it was
pub record TextOf (Promised : Answer → Type 0) (printed : Answer → List ℕ) (out out-exit : List ℕ)
    (r : ℕ) : Type 0 where
  pub answer : Answer
  pub promises : Promised answer
  pub text : out-exit ≡ take r out ++ printed answer

-- the text of the answer of which the call's promise holds. What an accepted answer shows is made of the call's output,
-- the number of records and the number that the answer carries.
abbrev pub PromisesInText : Call → (List ℕ → ℕ → ℕ → List ℕ) → Lent → Left → List ℕ → List ℕ → ℕ → Type 0
PromisesInText call shown l e out out-exit r =
    TextOf (Promises call l e) (λ answer. answer_text (shown (output_of e.outputs) (size l)) answer e.scratch) out
    out-exit r

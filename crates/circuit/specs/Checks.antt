-- The checks that a service puts in order with `then`: the table's length, the lent buffers, the records; and what a
-- table is whose records passed.
-- Assumes nothing.
use Rattle.std.specs.Prelude.{Result}
use Rattle.std.specs.Prelude.{◌≡◌, ℕ, zero, suc, ◌+◌, ◌*◌, ◌/◌, ◌%◌, ◌≤◌, not, List, [], ◌∷◌, length, ◌==◌, nat_lt}
use Rattle.circuit.specs.declared.refusal.Ground.TheVariants.{TableTooLong, TableNotWhole, OutputShort, ScratchShort}
use Rattle.circuit.specs.Refusal.{Check}
use Rattle.std.specs.Prelude.{Ok, Err}
use Rattle.circuit.specs.Refusal.{passed, refused}
use Rattle.circuit.specs.declared.record.Record.{Record}
use Rattle.circuit.specs.declared.refusal.Ground.{Ground}
use Rattle.std.specs.Prelude.{Ok, Err}
use Rattle.circuit.specs.Refusal.{refuse, ◌then◌}
use Rattle.circuit.specs.Reading.{fields_at, read_record}

-- grounds 1 and 2, of the table's length in bytes
abbrev pub check_length : ℕ → Check
check_length bytes =
    refuse TableTooLong 0 (nat_lt 65536 bytes)
    (refuse TableNotWhole 0 (not (bytes % 16 == 0))
    passed)

-- ground 3: what is lent of an output buffer, and what is asked
abbrev pub check_output : ℕ → ℕ → Check
check_output lent asked = refuse OutputShort 0 (nat_lt lent asked) passed

-- ground 4: what is lent of the scratch, and what is asked
abbrev pub check_scratch : ℕ → ℕ → Check
check_scratch lent asked = refuse ScratchShort 0 (nat_lt lent asked) passed

-- a record's refusal has the record as its place
abbrev pub at_record : Result Record Ground → ℕ → Check
at_record (Ok r) i = passed
at_record (Err reason) i = refused reason i

-- grounds 5 to 10 of `count` records from record i on, in a table of n records
unfoldable pub check_records_from : List ℕ → ℕ → ℕ → ℕ → Check
unfolding read_record
check_records_from t n zero i = passed
check_records_from t n (suc count) i =
    at_record (read_record (fields_at t (i * 16)) n) i
    then check_records_from t n count (i + 1)

-- grounds 5 to 10 of the first n records of a table's bytes
unfoldable pub check_records : List ℕ → ℕ → Check
unfolding check_records_from
check_records t n = check_records_from t n n 0

-- the first n records of these bytes passed the checks
pub record Checked (t : List ℕ) (n : ℕ) : Type 0 where
  pub small : n ≤ 4096
  pub long : n * 16 ≤ length t
  pub valid : check_records t n ≡ passed

-- how long a lent buffer is, and how much of it is asked a record
pub record Asked : Type 0 where
  pub lent : ℕ
  pub each : ℕ

-- ground 3 of each output in turn, for n records; then what is tried next
abbrev pub check_outputs : ℕ → List Asked → Check → Check
check_outputs n [] next = next
check_outputs n (o ∷ os) next = check_output o.lent (n * o.each) then check_outputs n os next

-- grounds 1 to 10 of a call on a table, with what it asks of its outputs and of its scratch
abbrev pub check_call : List ℕ → List Asked → Asked → Check
check_call t outputs scratch =
    check_length (length t)
    then check_outputs (length t / 16) outputs
    (check_scratch scratch.lent (length t / 16 * scratch.each)
    then check_records t (length t / 16))

-- The scan of a table's records, step by step.
-- Assumes nothing.
use Rattle.std.proofs.Common.{◌≡◌, ℕ, suc, ◌+◌, ◌-◌, ◌*◌, ◌<◌, ◌≤◌, List, arith}
use native.Mathlib.Nat.{sub-zero}
use Rattle.circuit.specs.declared.record.Record.{Record}
use Rattle.std.specs.Prelude.{Ok, Err}
use Rattle.std.specs.Prelude.{Ok, Err}
use Rattle.circuit.specs.Refusal.{passed, refused}
use Rattle.circuit.specs.declared.refusal.Ground.{Ground}
use Rattle.circuit.specs.Reading.{fields_at, read_record}
use Rattle.circuit.specs.Checks.{check_records_from, check_records}

-- one more is left before i than after it
pub steps_left : (n i : ℕ) → i < n → n - i ≡ suc (n - (i + 1))
steps_left n i h = omega arith

module _ (t : List ℕ) (n : ℕ) where
  pub scan_start : check_records t n ≡ check_records_from t n (n - 0) 0
  unfolding check_records
  scan_start = rw sub-zero

  module _ (i : ℕ) where
    pub scan_more : i < n → (r : Record) → read_record (fields_at t (i * 16)) n ≡ Ok r
        → check_records_from t n (n - i) i ≡ check_records_from t n (n - (i + 1)) (i + 1)
    unfolding check_records_from
    scan_more h r e = rw (steps_left n i h, e)

    pub scan_refused : i < n → (reason : Ground) → read_record (fields_at t (i * 16)) n ≡ Err reason
        → check_records_from t n (n - i) i ≡ refused reason i
    unfolding check_records_from
    scan_refused h reason e = rw (steps_left n i h, e)

    pub scan_end : n ≤ i → check_records_from t n (n - i) i ≡ passed
    unfolding check_records_from
    scan_end h = rw none_left
      where
        none_left : n - i ≡ 0
        none_left = omega arith

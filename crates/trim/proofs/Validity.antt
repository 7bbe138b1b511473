-- The trimmed circuit's records meet none of grounds 5 to 10 where the circuit's records don't and every number that
-- the store calls always fits its variable's width.
-- Assumes nothing.
use mathlib.Core.Path.{◌≡◌}
use mathlib.Core.List.{List}
use Prim.Native.Nat.{ℕ, ◌^◌, ◌<◌}
use lib.ListN.{length}
use Rattle.circuit.specs.Refusal.{passed}
use Rattle.circuit.specs.Record.{width}
use Rattle.circuit.specs.Reading.{encode}
use Rattle.circuit.specs.Circuit.{Circuit, circuit, record_of}
use Rattle.circuit.specs.Checks.{check_records}
use Rattle.circuit.proofs.Records.{Valid, encode_width, encode_valid, valid_uses}
use Rattle.circuit.proofs.Tables.{Inside, circuit_length, encoded_valid}
use Rattle.fact.specs.declared.Fact.{Fact}
use Rattle.trim.specs.Ready.{FactFits}
use Rattle.trim.specs.Trimmed.{replaced, trimmed}
use Rattle.trim.proofs.Renumbered.{renumber_value}
use Rattle.trim.proofs.Survivors.{old_number}
use Rattle.trim.proofs.Loops.{trimmed_all_inside}
use Rattle.trim.proofs.TrimmedRecords.{old_below, own_or_called, trimmed_width}

-- none of grounds 5 to 10 holds of the circuit's records
abbrev pub AllValid : Circuit → Type 0
AllValid c = (v : ℕ) → v < length c → Valid (encode (record_of c v)) (length c)

-- then they use the circuit's variables alone
pub valid_inside : (c : Circuit) → AllValid c → Inside c
valid_inside c valid v u h m = valid_uses (record_of c v) (length c) (valid v h) u m

-- a table's records that pass are such
pub circuit_valid : (t : List ℕ) (n : ℕ) → check_records t n ≡ passed → AllValid (circuit t n)
circuit_valid t n e v h = rw (circuit_length t n) (encoded_valid t n e v (rw (circuit_length t n) at h))

module _ (c : Circuit) (s : ℕ → Fact) (kept : List ℕ) (valid : AllValid c)
    (fits : (v : ℕ) → v < length c → FactFits (width (record_of c v)) (s v)) where
  abbrev c' : Circuit
  c' = trimmed (replaced c s) kept

  -- where every number that is called always fits, none holds of the trimmed circuit's
  pub trimmed_valid : AllValid c'
  trimmed_valid j h =
      let v = old_number (replaced c s) kept j in
      let below : v < length c = old_below c s kept j h in
      let was = valid v below in
      let same : width (record_of c' j) ≡ width (record_of c v) = trimmed_width c s kept j h in
      let value : (encode (record_of c' j)).value < 2 ^ width (record_of c v) =
      own_or_called c s kept j h
      (λ o. rw (o.is, renumber_value _ (record_of c v), ← encode_width (record_of c v)) was.value)
      (λ m d. rw d.is (rw d.always at (fits v below))) in
      encode_valid (record_of c' j) (length c')
      (rw (same, ← encode_width (record_of c v)) was.width_least)
      (rw (same, ← encode_width (record_of c v)) was.width_most)
      (rw same value)
      (λ u m. trimmed_all_inside c s kept (valid_inside c valid) j u h m)

-- The bytes of records, one record after another: what is read of them is the records, whatever follows, and they pass
-- where none of grounds 5 to 10 holds of the records' numbers.
-- Assumes nothing.
use mathlib.Core.Path.{◌≡◌, refl, sym, ap, ◌∙◌}
use mathlib.Core.List.{List, [], ◌∷◌, ◌++◌, flat_map, append_assoc}
use Prim.Native.Nat.{ℕ, zero, suc, ◌+◌, ◌*◌, ◌<◌, ◌≤◌}
use native.Mathlib.Nat.{not-suc-le-zero, le_of_suc-le-suc, zero-mul, zero-add, suc-mul}
use native.Mathlib.Omega.{arith}
use lib.ListN.{length, get_or, length-append, get_or-append}
use lib.Seq.{ext_get_or, get_or-append-add}
use Rattle.circuit.specs.declared.record.InputKind.TheVariants.{Fixed}
use Rattle.circuit.specs.declared.record.Record.TheVariants.{Input}
use Rattle.circuit.specs.Refusal.{passed}
use Rattle.circuit.specs.Reading.{fields_at, decode, encode, record_bytes}
use Rattle.circuit.specs.Circuit.{Circuit, circuit, record_of}
use Rattle.circuit.specs.Checks.{check_records}
use Rattle.circuit.proofs.Records.{decode_encode}
use Rattle.circuit.proofs.Tables.{records_pass, circuit_length, circuit_record}
use Rattle.trim.proofs.Cells.{field_laws, valid_small, fields_read}
use Rattle.trim.proofs.Validity.{AllValid}

-- ---- parts of one length, one after another

module _ {A : Type 0} (image : A → List ℕ) (each : ℕ) (size : (x : A) → length (image x) ≡ each) where
  pub parts_length : (xs : List A) → length (flat_map image xs) ≡ length xs * each
  unfolding flat_map
  parts_length [] = sym (zero-mul each)
  parts_length (x ∷ xs) =
      length-append (image x) (flat_map image xs)
      ∙ omega (arith, size x, parts_length xs, suc-mul (length xs) each)

  -- what stands in part i is its image, whatever follows
  pub part_at : (xs : List A) (rest : List ℕ) (i k : ℕ) (d : A) → i < length xs → k < each
      → get_or (flat_map image xs ++ rest) (i * each + k) 0 ≡ get_or (image (get_or xs i d)) k 0
  unfolding flat_map
  part_at [] rest i k d h l = absurd (not-suc-le-zero h)
  part_at (x ∷ xs) rest zero k d h l =
      rw (append_assoc (image x) (flat_map image xs) rest, zero-mul each, zero-add k)
      (get_or-append (image x) (flat_map image xs ++ rest) 0 k (rw (size x) l))
  part_at (x ∷ xs) rest (suc i) k d h l =
      let e : suc i * each + k ≡ length (image x) + (i * each + k) = omega (arith, suc-mul i each, size x) in
      rw (append_assoc (image x) (flat_map image xs) rest, e)
      (get_or-append-add (image x) (flat_map image xs ++ rest) (i * each + k) 0
      ∙ part_at xs rest i k d (le_of_suc-le-suc h) l)

-- ---- a table of records

-- 16 bytes a record
pub records_length : (rs : Circuit) → length (flat_map record_bytes rs) ≡ length rs * 16
records_length = parts_length record_bytes 16 (λ r. refl)

-- of records of which none of grounds 5 to 10 holds, whatever follows their bytes
module _ (rs : Circuit) (rest : List ℕ) (few : length rs ≤ 65536) (valid : AllValid rs) where
  abbrev t : List ℕ
  t = flat_map record_bytes rs ++ rest

  -- the fields of each are its numbers
  pub written_fields : (i : ℕ) → i < length rs → fields_at t (i * 16) ≡ encode (record_of rs i)
  written_fields i h =
      field_laws.local t (record_bytes (record_of rs i)) (i * 16) 0
      (λ m q. rw (zero-add m) (part_at record_bytes 16 (λ r. refl) rs rest i m (Input 1 (Fixed 0)) h q))
      ∙ fields_read (encode (record_of rs i))
      (valid_small (encode (record_of rs i)) (length rs) (omega arith) few (valid i h))

  -- all pass
  pub written_pass : check_records t (length rs) ≡ passed
  written_pass = records_pass t (length rs) (λ i h. rw (written_fields i h) (valid i h))

  -- the table's circuit is the records
  pub written_circuit : circuit t (length rs) ≡ rs
  written_circuit =
      ext_get_or _ (circuit t (length rs)) rs (circuit_length t (length rs))
      (λ i h.
      let below : i < length rs = rw (circuit_length t (length rs)) at h in
      circuit_record t (length rs) i below ∙ ap decode (written_fields i below) ∙ decode_encode (record_of rs i))

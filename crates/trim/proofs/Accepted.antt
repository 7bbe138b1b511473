-- An accepted trimming call, by any certificate that ground 22 lets pass: what it writes is a table of which none of
-- grounds 1, 2 and 5 to 11 holds, and its circuit is the trimmed one; the numbers beside it are the survivors.
-- Assumes nothing.
use mathlib.Core.Path.{◌≡◌, sym, ap, ◌∙◌, subst}
use mathlib.Core.List.{List, [], ◌++◌, flat_map, append-nil}
use Prim.Native.Nat.{ℕ, ◌*◌, ◌/◌, ◌%◌, ◌≤◌, ◌<◌}
use native.Mathlib.Omega.{arith}
use borrow.Author.Tests.{le-ltb, eq-eqb}
use lib.ListN.{length, take, drop, get_or, get_or-append}
use lib.Seq.{take_at}
use Rattle.circuit.specs.Refusal.{passed, ◌then◌}
use Rattle.circuit.specs.Reading.{record_bytes}
use Rattle.circuit.specs.Circuit.{Circuit, circuit, NoLoop}
use Rattle.circuit.specs.Checks.{check_length, check_records, Checked}
use Rattle.circuit.proofs.Tables.{circuit_length, circuit_inside}
use Rattle.fact.specs.Fact.{fact_at}
use Rattle.call.specs.Call.{Lent, accepted, output_of}
use Rattle.call.proofs.Parts.{table_checked}
use Rattle.trim.specs.Trimmed.{replaced, survivors, trimmed}
use Rattle.trim.specs.Ready.{Trimmable}
use Rattle.trim.specs.Promise.{lent, left, second_of, trimming, CallTrims}
use Rattle.trim.proofs.Grounds.{trimmable}
use Rattle.trim.proofs.Survivors.{old_number, trimmed_length}
use Rattle.trim.proofs.Loops.{trimmed_no_loop}
use Rattle.trim.proofs.Validity.{AllValid, circuit_valid, trimmed_valid}
use Rattle.trim.proofs.Bytes.{records_length, written_pass, written_circuit}
use Rattle.trim.proofs.Promise.{accepted_few}

-- none of grounds 1 and 2 holds of at most 4,096 whole records
pub length_passes : (n : ℕ) → n ≤ 4096 → check_length (n * 16) ≡ passed
length_passes n few =
    let whole : n * 16 % 16 ≡ 0 = omega arith in
    rw (le-ltb 65536 (n * 16) (omega arith), eq-eqb (n * 16 % 16) 0 whole)

module _ {certificate kept t first second scratch first' second' scratch' : List ℕ} {k : ℕ}
    (p : CallTrims certificate kept (lent t first second scratch) (left first' second' scratch') (accepted k)) where
  abbrev l : Lent
  l = lent t first second scratch

  abbrev n : ℕ
  n = length t / 16

  abbrev c : Circuit
  c = circuit t n

  abbrev c₁ : Circuit
  c₁ = replaced c (fact_at certificate)

  abbrev c' : Circuit
  c' = trimmed c₁ kept

  -- the trimmed table
  abbrev t' : List ℕ
  t' = take (k * 16) first'

  table : Checked t n
  table = table_checked (trimming certificate kept) l p.past.passed

  -- what is known of a call that meets none of grounds 20 to 22
  pub accepted_trimmable : Trimmable (circuit t n) n certificate kept (length first) (length second)
  accepted_trimmable = trimmable t n certificate kept (length first) (length second) table p.later

  -- the number that is answered is that of the trimmed circuit's variables
  pub trimmed_size : k ≡ length c'
  trimmed_size = p.accepts.count ∙ sym (trimmed_length c₁ kept)

  -- it is at most that of the table's
  pub trimmed_few : k ≤ n
  trimmed_few = accepted_few certificate kept l p

  valid : AllValid c'
  valid =
      trimmed_valid c (fact_at certificate) kept (circuit_valid t n table.valid)
      (λ v h. accepted_trimmable.fits v (rw (circuit_length t n) at h))

  small : length c' ≤ 65536
  small = omega (arith, trimmed_size, trimmed_few, table.small)

  bytes : t' ≡ flat_map record_bytes c' ++ []
  bytes =
      ap (λ (o : List (List ℕ)). take (k * 16) (output_of o)) p.accepts.written
      ∙ take_at (flat_map record_bytes c') (drop (k * 16) first) (k * 16)
      (records_length c' ∙ ap (λ (j : ℕ). j * 16) (sym trimmed_size))
      ∙ sym (append-nil (flat_map record_bytes c'))

  -- 16 bytes a variable
  pub trimmed_bytes : length t' ≡ k * 16
  trimmed_bytes =
      ap length (bytes ∙ append-nil (flat_map record_bytes c')) ∙ records_length c'
      ∙ ap (λ (j : ℕ). j * 16) (sym trimmed_size)

  -- so many records
  pub trimmed_records : length t' / 16 ≡ k
  trimmed_records = omega (arith, trimmed_bytes)

  -- the trimmed table's circuit is the trimmed circuit
  pub trimmed_circuit : circuit t' k ≡ c'
  trimmed_circuit =
      ap (λ (b : List ℕ). circuit b k) bytes ∙ ap (circuit (flat_map record_bytes c' ++ [])) trimmed_size
      ∙ written_circuit c' [] small valid

  -- grounds 1 and 2 do not hold of it
  pub trimmed_length_passes : check_length (length t') ≡ passed
  trimmed_length_passes = rw trimmed_bytes (length_passes k (omega (arith, trimmed_few, table.small)))

  -- nor do grounds 5 to 10
  pub trimmed_records_pass : check_records t' (length t' / 16) ≡ passed
  trimmed_records_pass =
      ap (check_records t') trimmed_records ∙ ap (λ (b : List ℕ). check_records b k) bytes
      ∙ ap (check_records (flat_map record_bytes c' ++ [])) trimmed_size ∙ written_pass c' [] small valid

  -- none of them holds
  pub trimmed_passes : (check_length (length t') then check_records t' (length t' / 16)) ≡ passed
  trimmed_passes = rw trimmed_length_passes trimmed_records_pass

  -- nor does ground 11: no row is a loop
  pub trimmed_without_loop : NoLoop (circuit t' (length t' / 16))
  trimmed_without_loop =
      subst NoLoop (sym (ap (circuit t') trimmed_records ∙ trimmed_circuit))
      (trimmed_no_loop c (fact_at certificate) kept (circuit_inside t n table.valid) p.past.no_loop)

  -- the numbers that are written are the survivors' old ones
  pub numbers_written : (j : ℕ) → j < k → get_or second' j 0 ≡ old_number c₁ kept j
  numbers_written j h =
      ap (λ (o : List (List ℕ)). get_or (second_of o) j 0) p.accepts.written
      ∙ get_or-append (survivors c₁ kept) (drop k second) 0 j (omega (arith, p.accepts.count))

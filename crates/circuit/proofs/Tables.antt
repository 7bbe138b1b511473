-- What holds of a table that meets none of grounds 5 to 10: its records pass, its circuit has them, and they use its
-- variables alone. A circuit of which that holds, and that has no loop, has a rank; one in which numbers fall along
-- every wire's uses has no loop.
-- Assumes nothing.
use Rattle.circuit.specs.declared.refusal.Ground.{Ground}
use Rattle.std.proofs.Common.{◌≡◌, ℕ, zero, suc, ◌+◌, ◌*◌, ◌<◌, ◌≤◌, Bool, ◌&&◌, ◌||◌, T, ltb, List, length, get_or, sym, refl, ap, ◌∙◌, subst, ⊎_elim, arith, ltb-true}
use native.Mathlib.Decide.{ℕ_discrete}
use Rattle.net.specs.Tests.{all_below, every, member}
use Rattle.net.specs.Net.{wire}
use Rattle.net.specs.Loop.{Uses}
use Rattle.net.proofs.Bools.{T_of, of_T, and_left, and_right, or_cases, all_at, every_at}
use Rattle.net.proofs.Lists.{length_list_below, get_or_list_below}
use Rattle.net.proofs.Loops.{ranked_or_loop, ranked_no_loop}
use Rattle.net.proofs.Settle.{Ranked}
use Rattle.std.specs.Prelude.{Ok, Err}
use Rattle.circuit.specs.Refusal.{passed}
use Rattle.std.specs.Prelude.{Result}
use Rattle.std.specs.Prelude.{Ok, Err}
use Rattle.circuit.specs.declared.record.Record.{Record}
use Rattle.circuit.specs.Record.{uses, role, is_register}
use Rattle.circuit.specs.Reading.{fields_at, decode, encode, read_record}
use Rattle.circuit.specs.Circuit.{Circuit, circuit, record_of, graph, NoLoop}
use Rattle.circuit.specs.Checks.{at_record, check_records_from, check_records}
use Rattle.circuit.proofs.Passing.{then_passed}
use Rattle.circuit.proofs.Records.{Valid, read_valid, valid_read}
use Rattle.circuit.proofs.Numbers.{fields_encoded}

-- ---- the records

record_read : (x : Result Record Ground) (i : ℕ) → at_record x i ≡ passed → (r : Record) × (x ≡ Ok r)
record_read (Ok r) i e = (r, refl)
record_read (Err reason) i e = absurd (let z : ◌≡◌ {A = ℕ} 0 1 = cc in omega arith)

valid_from : (t : List ℕ) (n count i : ℕ) → check_records_from t n count i ≡ passed
    → (j : ℕ) → i ≤ j → j < i + count → Valid (fields_at t (j * 16)) n
unfolding check_records_from
valid_from t n zero i e j low high = absurd (omega arith)
valid_from t n (suc count) i e j low high =
    let (here, later) =
    then_passed (at_record (read_record (fields_at t (i * 16)) n) i) (check_records_from t n count (i + 1)) e in
    let (r, d) = record_read (read_record (fields_at t (i * 16)) n) i here in
    elim (ℕ_discrete i j) [
      | yes q ↦ subst (λ (k : ℕ). Valid (fields_at t (k * 16)) n) q (read_valid (fields_at t (i * 16)) n r d).0
      | no q ↦ valid_from t n count (i + 1) later j (omega arith) (omega arith)
    ]

-- no ground from 5 to 10 holds of any record
pub records_valid : (t : List ℕ) (n : ℕ) → check_records t n ≡ passed → (i : ℕ) → i < n
    → Valid (fields_at t (i * 16)) n
unfolding check_records
records_valid t n e i h = valid_from t n n 0 e i (omega arith) (omega arith)

passed_from : (t : List ℕ) (n count i : ℕ) → ((j : ℕ) → i ≤ j → j < i + count → Valid (fields_at t (j * 16)) n)
    → check_records_from t n count i ≡ passed
unfolding check_records_from
passed_from t n zero i h = refl
passed_from t n (suc count) i h =
    rw (valid_read (fields_at t (i * 16)) n (h i (omega arith) (omega arith)))
    (passed_from t n count (i + 1) (λ j low high. h j (omega arith) (omega arith)))

-- where no ground from 5 to 10 holds of any record, all pass
pub records_pass : (t : List ℕ) (n : ℕ) → ((i : ℕ) → i < n → Valid (fields_at t (i * 16)) n)
    → check_records t n ≡ passed
unfolding check_records
records_pass t n h = passed_from t n n 0 (λ j low high. h j (omega arith))

-- ---- the circuit

pub circuit_length : (t : List ℕ) (n : ℕ) → length (circuit t n) ≡ n
unfolding circuit
circuit_length t n = length_list_below _ n

pub circuit_record : (t : List ℕ) (n i : ℕ) → i < n → record_of (circuit t n) i ≡ decode (fields_at t (i * 16))
unfolding circuit
circuit_record t n i h = get_or_list_below _ n i _ h

module _ (t : List ℕ) (n : ℕ) (e : check_records t n ≡ passed) (v : ℕ) (h : v < n) where
  -- the numbers of a record that passed are its fields
  pub record_encoded : encode (record_of (circuit t n) v) ≡ fields_at t (v * 16)
  record_encoded =
      ap encode (circuit_record t n v h) ∙ sym (fields_encoded (fields_at t (v * 16)) n (records_valid t n e v h))

  -- and no ground holds of them
  pub encoded_valid : Valid (encode (record_of (circuit t n) v)) n
  encoded_valid = rw record_encoded (records_valid t n e v h)

-- every variable that a record of the circuit uses is one of the circuit's
abbrev pub Inside : Circuit → Type 0
Inside c = (v u : ℕ) → v < length c → Uses (graph c) v u → u < length c

-- every variable that record v uses is one of the n
pub record_uses : (t : List ℕ) (n : ℕ) → check_records t n ≡ passed → (v : ℕ) → v < n
    → (u : ℕ) → T (member u (uses (decode (fields_at t (v * 16))))) → u < n
record_uses t n e v below u m =
    ltb-true u n (of_T _ (every_at (λ x. ltb x n) _ (T_of _ (records_valid t n e v below).variables) u m))

pub circuit_inside : (t : List ℕ) (n : ℕ) → check_records t n ≡ passed → Inside (circuit t n)
circuit_inside t n e v u h m =
    let below : v < n = omega (arith, circuit_length t n) in
    let used : T (member u (uses (decode (fields_at t (v * 16))))) = rw (circuit_record t n v below) at m in
    omega (arith, circuit_length t n, record_uses t n e v below u used)

pub circuit_ranked : (c : Circuit) → Inside c → NoLoop c → Ranked (graph c)
circuit_ranked c inside none = ⊎_elim (λ r. r) (λ l. absurd (none l.0 l.1)) (ranked_or_loop (graph c) inside)

-- ---- a rank of numbers that are written out

module _ (c : Circuit) (rank : ℕ → ℕ) (v : ℕ) where
  -- a variable is a register, or its number is above those of all that it uses
  abbrev above : Bool
  above = is_register (record_of c v) || every (λ u. ltb (rank u) (rank v)) (uses (record_of c v))

  -- and its number is below that of records
  abbrev falling : Bool
  falling = ltb (rank v) (length c) && above

  wire_above : T above → role (record_of c v) ≡ wire → (u : ℕ) → T (member u (uses (record_of c v))) → rank u < rank v
  wire_above h e u used =
      or_cases (is_register (record_of c v)) (every (λ x. ltb (rank x) (rank v)) (uses (record_of c v))) h
      (λ t. absurd (rw (e, T, is_register) at t))
      (λ t. ltb-true (rank u) (rank v)
      (of_T _ (every_at (λ x. ltb (rank x) (rank v)) (uses (record_of c v)) t u used)))

-- of numbers for a table's variables, in order
abbrev pub Falls : List ℕ → ℕ → List ℕ → Type 0
Falls t n ranks = T (all_below (falling (circuit t n) (λ v. get_or ranks v 0)) (length (circuit t n)))

pub falling_no_loop : (t : List ℕ) (n : ℕ) (ranks : List ℕ) → check_records t n ≡ passed → Falls t n ranks
    → NoLoop (circuit t n)
falling_no_loop t n ranks passed h =
    ranked_no_loop
    (record {
      inside = circuit_inside t n passed;
      rank = rank;
      small = λ v below e.
          ltb-true (rank v) (length c) (of_T _ (and_left (ltb (rank v) (length c)) (above c rank v) (here v below)));
      falls = λ v u below e d used.
          wire_above c rank v (and_right (ltb (rank v) (length c)) (above c rank v) (here v below)) e u used;
    })
  where
    c : Circuit
    c = circuit t n

    rank : ℕ → ℕ
    rank v = get_or ranks v 0

    here : (v : ℕ) → v < length c → T (falling c rank v)
    here = all_at (falling c rank) (length c) h

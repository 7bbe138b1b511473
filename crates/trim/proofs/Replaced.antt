-- The circuit with what is called always as constants: its records, and what they use.
-- Assumes nothing.
use mathlib.Core.Path.{◌≡◌, refl, sym, ap, ◌∙◌}
use mathlib.Core.Bool.{Bool, true, false, not, ◌||◌}
use mathlib.Core.List.{List, []}
use Prim.Native.Nat.{ℕ, zero, suc, ◌+◌, ◌*◌, ◌≤◌, ◌<◌}
use native.Mathlib.Nat.{not-suc-le-zero}
use native.Mathlib.Omega.{arith}
use lib.Dec.{T, eqb}
use lib.ListN.{length, get_or, get_or-eq_default}
use lib.Seq.{ext_get_or}
use Rattle.net.specs.Tests.{member}
use Rattle.net.proofs.Bools.{true_false}
use Rattle.net.proofs.Cases.{by_same, by_le}
use Rattle.net.proofs.Lists.{length_list_below, get_or_list_below}
use Rattle.circuit.specs.declared.record.Record.{Record}
use Rattle.circuit.specs.declared.record.Record.TheVariants.{Input, Constant, Operator, Multiplexer, Register, Enabled}
use Rattle.circuit.specs.Number.{u32_at}
use Rattle.circuit.specs.declared.record.InputKind.TheVariants.{Fixed}
use Rattle.circuit.specs.Record.{width, uses, input_of}
use Rattle.circuit.specs.Reading.{fields_at, decode}
use Rattle.circuit.specs.Circuit.{Circuit, circuit, record_of}
use Rattle.circuit.specs.Stimuli.{is_input}
use Rattle.circuit.specs.Checks.{Checked}
use Rattle.circuit.proofs.Tables.{Inside, circuit_length, circuit_record, circuit_inside}
use Rattle.fact.specs.declared.Fact.{Fact}
use Rattle.fact.specs.declared.Fact.TheVariants.{Always, Open, Marked}
use Rattle.fact.specs.Fact.{fact_of, fact_at}
use Rattle.fact.proofs.Cells.{fact_past}
use Rattle.trim.specs.Trimmed.{replace, replaced}
use Rattle.trim.specs.Ready.{remains}
use Rattle.trim.specs.Visits.{InsideOf}

-- ---- one record

-- what is called always uses nothing
pub always_unused : (m : ℕ) (r : Record) → uses (replace (Always m) r) ≡ []
always_unused m (Input w k) = refl
always_unused m (Constant w n) = refl
always_unused m (Operator w op a b) = refl
always_unused m (Multiplexer w a b c) = refl
always_unused m (Register w a n) = refl
always_unused m (Enabled w a b n) = refl

pub open_stays : (r : Record) → replace Open r ≡ r
open_stays (Input w k) = refl
open_stays (Constant w n) = refl
open_stays (Operator w op a b) = refl
open_stays (Multiplexer w a b c) = refl
open_stays (Register w a n) = refl
open_stays (Enabled w a b n) = refl

pub marked_stays : (r : Record) → replace Marked r ≡ r
marked_stays (Input w k) = refl
marked_stays (Constant w n) = refl
marked_stays (Operator w op a b) = refl
marked_stays (Multiplexer w a b c) = refl
marked_stays (Register w a n) = refl
marked_stays (Enabled w a b n) = refl

pub replace_always : (m : ℕ) (r : Record) → is_input (input_of r) ≡ false → replace (Always m) r ≡ Constant (width r) m
replace_always m (Input w k) e = true_false e
replace_always m (Constant w n) e = refl
replace_always m (Operator w op a b) e = refl
replace_always m (Multiplexer w a b c) e = refl
replace_always m (Register w a n) e = refl
replace_always m (Enabled w a b n) e = refl

pub replace_input : (f : Fact) (r : Record) → is_input (input_of r) ≡ true → replace f r ≡ r
replace_input f (Input w k) e = refl
replace_input f (Constant w n) e = true_false (sym e)
replace_input f (Operator w op a b) e = true_false (sym e)
replace_input f (Multiplexer w a b c) e = true_false (sym e)
replace_input f (Register w a n) e = true_false (sym e)
replace_input f (Enabled w a b n) e = true_false (sym e)

-- inputs stay inputs, and nothing becomes one
input_kept : (f : Fact) (r : Record) → is_input (input_of (replace f r)) ≡ is_input (input_of r)
input_kept (Always m) r = go (is_input (input_of r)) refl
  where
    go : (b : Bool) → is_input (input_of r) ≡ b → is_input (input_of (replace (Always m) r)) ≡ is_input (input_of r)
    go true e = ap (λ (x : Record). is_input (input_of x)) (replace_input (Always m) r e)
    go false e = ap (λ (x : Record). is_input (input_of x)) (replace_always m r e) ∙ sym e
input_kept Open r = ap (λ (x : Record). is_input (input_of x)) (open_stays r)
input_kept Marked r = ap (λ (x : Record). is_input (input_of x)) (marked_stays r)

-- a fact byte that is not 1 calls nothing always
pub replace_other : (byte m : ℕ) (r : Record) → (byte ≡ 1 → ⊥) → replace (fact_of byte m) r ≡ r
replace_other zero m r ne = marked_stays r
replace_other (suc zero) m r ne = absurd (ne refl)
replace_other (suc (suc zero)) m r ne = open_stays r
replace_other (suc (suc (suc byte))) m r ne =
    ap (λ (f : Fact). replace f r) (fact_past (suc (suc (suc byte))) m (omega arith)) ∙ marked_stays r

-- a replaced record stays, or is a constant of the number that it is called always
pub replace_cases : {P : Type 0} (f : Fact) (r : Record) → (replace f r ≡ r → P)
    → ((m : ℕ) → f ≡ Always m → replace f r ≡ Constant (width r) m → P) → P
replace_cases {P} (Always m) r stays constant = go (is_input (input_of r)) refl
  where
    go : (b : Bool) → is_input (input_of r) ≡ b → P
    go true e = stays (replace_input (Always m) r e)
    go false e = constant m refl (replace_always m r e)
replace_cases Open r stays constant = stays (open_stays r)
replace_cases Marked r stays constant = stays (marked_stays r)

-- a replaced record that uses something stays
pub used_stays : (f : Fact) (r : Record) (u : ℕ) → T (member u (uses (replace f r))) → replace f r ≡ r
unfolding member
used_stays f r u h = replace_cases f r (λ e. e) (λ m d e. absurd (rw e at h))

-- what a replaced record uses, the record uses
pub replace_uses : (f : Fact) (r : Record) (u : ℕ) → T (member u (uses (replace f r))) → T (member u (uses r))
replace_uses f r u h = rw (used_stays f r u h) at h

-- ---- the circuit

module _ (c : Circuit) (s : ℕ → Fact) where
  pub replaced_length : length (replaced c s) ≡ length c
  unfolding replaced
  replaced_length = length_list_below (λ v. replace (s v) (record_of c v)) (length c)

  pub replaced_record : (v : ℕ) → v < length c → record_of (replaced c s) v ≡ replace (s v) (record_of c v)
  unfolding replaced
  replaced_record v h = get_or_list_below (λ u. replace (s u) (record_of c u)) (length c) v _ h

  -- it uses its variables alone where the circuit does
  pub replaced_inside : Inside c → Inside (replaced c s)
  replaced_inside inside v u h used =
      let below : v < length c = omega (arith, replaced_length) in
      let before : T (member u (uses (record_of c v))) =
      replace_uses (s v) (record_of c v) u (rw (replaced_record v below) at used) in
      omega (arith, replaced_length, inside v u below before)

  replaced_input : (v : ℕ) → is_input (input_of (record_of (replaced c s) v)) ≡ is_input (input_of (record_of c v))
  replaced_input v =
      by_le (length c) v
      (λ h. ap (λ (r : Record). is_input (input_of r)) (past (replaced c s) (rw replaced_length h) ∙ sym (past c h)))
      (λ h. ap (λ (r : Record). is_input (input_of r)) (replaced_record v h) ∙ input_kept (s v) (record_of c v))
    where
      past : (d : Circuit) → length d ≤ v → record_of d v ≡ Input 1 (Fixed 0)
      past d h = get_or-eq_default d (Input 1 (Fixed 0)) h

  -- the same variables remain
  pub remains_replaced : (flags : List ℕ) (v : ℕ) → remains (replaced c s) flags v ≡ remains c flags v
  remains_replaced flags v = ap (λ (b : Bool). b || not (eqb (get_or flags v 0) 0)) (replaced_input v)

-- stores that agree on the circuit's variables give one circuit
pub replaced_agree : (c : Circuit) (s s' : ℕ → Fact) → ((v : ℕ) → v < length c → s v ≡ s' v)
    → replaced c s ≡ replaced c s'
replaced_agree c s s' h =
    ext_get_or (Input 1 (Fixed 0)) (replaced c s) (replaced c s') (replaced_length c s ∙ sym (replaced_length c s'))
    (λ v below.
    let variable : v < length c = rw (replaced_length c s) at below in
    replaced_record c s v variable ∙ ap (λ (f : Fact). replace f (record_of c v)) (h v variable)
    ∙ sym (replaced_record c s' v variable))

-- ---- a table, by a certificate's bytes

module _ (t certificate : List ℕ) (n v : ℕ) (below : v < n) where
  abbrev called : Circuit
  called = replaced (circuit t n) (fact_at certificate)

  pub called_record : record_of called v ≡ replace (fact_at certificate v) (decode (fields_at t (v * 16)))
  called_record =
      replaced_record (circuit t n) (fact_at certificate) v (omega (arith, circuit_length t n))
      ∙ ap (replace (fact_at certificate v)) (circuit_record t n v below)

  -- a variable that is called always uses none
  pub called_none : get_or certificate (v * 8) 0 ≡ 1 → uses (record_of called v) ≡ []
  called_none e =
      ap uses (called_record ∙ ap (λ (byte : ℕ). replace (fact_of byte number) own) e) ∙ always_unused number own
    where
      number : ℕ
      number = u32_at certificate (v * 8 + 4)

      own : Record
      own = decode (fields_at t (v * 16))

  -- any other has the record of the table
  pub called_own : (get_or certificate (v * 8) 0 ≡ 1 → ⊥) → record_of called v ≡ decode (fields_at t (v * 16))
  called_own ne = called_record ∙ replace_other (get_or certificate (v * 8) 0) _ _ ne

  -- what it uses stands in the table's record
  pub called_use : (k : ℕ) → k < length (uses (record_of called v))
      → (k < length (uses (decode (fields_at t (v * 16)))))
      × (get_or (uses (decode (fields_at t (v * 16)))) k 0 ≡ get_or (uses (record_of called v)) k 0)
  called_use k h =
      by_same (get_or certificate (v * 8) 0) 1
      (λ e. absurd (not-suc-le-zero (rw (called_none e) at h)))
      (λ ne. rw (called_own ne) (rw (called_own ne) at h, refl))

-- the circuit uses its variables alone
pub called_inside : {t : List ℕ} {n : ℕ} (certificate : List ℕ) → Checked t n
    → InsideOf (replaced (circuit t n) (fact_at certificate)) n
called_inside {t} {n} certificate table v u h used =
    omega (
      arith,
      circuit_length t n,
      replaced_length (circuit t n) (fact_at certificate),
      replaced_inside (circuit t n) (fact_at certificate) (circuit_inside t n table.valid) v u
          (omega (arith, circuit_length t n, replaced_length (circuit t n) (fact_at certificate))) used,
    )

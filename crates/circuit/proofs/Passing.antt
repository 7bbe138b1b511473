-- Checks that are put in order: which decides, and what holds where all pass, the lengths that grounds 1 to 4 speak
-- of among it.
-- Assumes nothing.
use Rattle.circuit.specs.declared.refusal.Refusal.{Refusal}
use Rattle.std.proofs.Common.{◌≡◌, ℕ, ◌*◌, ◌/◌, ◌≤◌, Bool, true, false, ltb, List, [], ◌∷◌, length, sym, refl, ap, ◌∙◌, mul-zero, arith, ltb-false}
use Rattle.circuit.specs.declared.refusal.Ground.{Ground}
use Rattle.circuit.specs.declared.refusal.Ground.TheVariants.{TableTooLong, OutputShort, ScratchShort}
use Rattle.circuit.specs.Refusal.{Check}
use Rattle.std.specs.Prelude.{Ok, Err}
use Rattle.circuit.specs.Refusal.{passed}
use Rattle.circuit.specs.Refusal.{refuse, ◌then◌}
use Rattle.circuit.specs.Checks.{check_length, check_output, check_scratch, check_records, Checked, Asked, check_outputs, check_call}

-- two checks pass where each does
pub then_passed : (a b : Check) → (a then b) ≡ passed → (a ≡ passed) × (b ≡ passed)
then_passed (Ok u) b e = (refl, e)
then_passed (Err r) b e = absurd (let z : ◌≡◌ {A = ℕ} 0 1 = cc in omega arith)

-- a test that does not refuse fails, and what is tried next passes
pub refuse_passed : (reason : Ground) (place : ℕ) (b : Bool) (next : Check) → refuse reason place b next ≡ passed
    → (b ≡ false) × (next ≡ passed)
refuse_passed reason place true next e = absurd (let z : ◌≡◌ {A = ℕ} 0 1 = cc in omega arith)
refuse_passed reason place false next e = (refl, e)

pub length_most : (bytes : ℕ) → check_length bytes ≡ passed → bytes ≤ 65536
length_most bytes e = ltb-false 65536 bytes (refuse_passed TableTooLong 0 (ltb 65536 bytes) _ e).0

output_lent : (lent asked : ℕ) → check_output lent asked ≡ passed → asked ≤ lent
output_lent lent asked e = ltb-false lent asked (refuse_passed OutputShort 0 (ltb lent asked) passed e).0

scratch_lent : (lent asked : ℕ) → check_scratch lent asked ≡ passed → asked ≤ lent
scratch_lent lent asked e = ltb-false lent asked (refuse_passed ScratchShort 0 (ltb lent asked) passed e).0

-- a check that refuses decides, whatever is tried next
pub check_stops : (x a rest : Check) (r : Refusal) → x ≡ a → x ≡ Err r → Err r ≡ (a then rest)
check_stops x a rest r e q = sym (ap (λ (y : Check). y then rest) (sym e ∙ q))

-- a check that passes leaves it to what is tried next
pub check_goes_on : (x a rest : Check) → x ≡ a → x ≡ passed → (a then rest) ≡ rest
check_goes_on x a rest e q = ap (λ (y : Check). y then rest) (sym e ∙ q)

-- an output of which nothing is asked is as none
pub nothing_asked : (t : List ℕ) (scratch : Asked)
    → check_call t (record { lent = 0; each = 0 } ∷ []) scratch ≡ check_call t [] scratch
nothing_asked t scratch = rw (mul-zero (length t / 16)) refl

-- of each output there is as much as is asked for n records
abbrev pub AllLent : ℕ → List Asked → Type 0
AllLent n [] = Unit {0}
AllLent n (o ∷ os) = (n * o.each ≤ o.lent) × AllLent n os

outputs_passed : (n : ℕ) (outputs : List Asked) (next : Check) → check_outputs n outputs next ≡ passed
    → AllLent n outputs × (next ≡ passed)
outputs_passed n [] next e = (tt, e)
outputs_passed n (o ∷ os) next e =
    let (here, later) = then_passed (check_output o.lent (n * o.each)) _ e in
    let (rest, last) = outputs_passed n os next later in
    ((output_lent o.lent (n * o.each) here, rest), last)

-- what none of grounds 1 to 10 leaves to a call on a table
module _ (t : List ℕ) (outputs : List Asked) (scratch : Asked) (ok : check_call t outputs scratch ≡ passed) where
  abbrev rest : Check
  rest = check_scratch scratch.lent (length t / 16 * scratch.each) then check_records t (length t / 16)

  lengths : (check_length (length t) ≡ passed) × (check_outputs (length t / 16) outputs rest ≡ passed)
  lengths = then_passed (check_length (length t)) _ ok

  last : (check_scratch scratch.lent (length t / 16 * scratch.each) ≡ passed)
      × (check_records t (length t / 16) ≡ passed)
  last = then_passed (check_scratch scratch.lent _) _ (outputs_passed _ outputs rest lengths.1).1

  pub call_checked : Checked t (length t / 16)
  call_checked =
      record { small = omega (arith, length_most (length t) lengths.0); long = omega arith; valid = last.1 }

  pub call_outputs : AllLent (length t / 16) outputs
  call_outputs = (outputs_passed _ outputs rest lengths.1).0

  pub call_scratch : length t / 16 * scratch.each ≤ scratch.lent
  call_scratch = scratch_lent scratch.lent _ last.0

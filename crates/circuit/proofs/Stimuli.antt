-- What holds of a list of stimuli that meets none of grounds 12 to 17: each stimulus of it meets none, every poke names
-- an input of the circuit, and a fixed one with the number that it has.
-- Assumes nothing.
use Rattle.std.proofs.Common.{◌≡◌, ℕ, zero, suc, ◌+◌, ◌*◌, ◌/◌, ◌%◌, ◌^◌, ◌<◌, ◌≤◌, Bool, true, false, not, ◌&&◌, eqb, ltb, leb, List, length, refl, subst, arith, ltb-false, ltb-true, le-ltb, eq-eqb, eqb-true, leb-false}
use native.Mathlib.Decide.{ℕ_discrete}
use borrow.Author.Tests.{not-false}
use Rattle.net.specs.declared.Stimulus.{Stimulus}
use Rattle.net.specs.declared.Stimulus.TheVariants.{Poke, Tick}
use Rattle.net.specs.Net.{list_below}
use Rattle.circuit.specs.declared.record.InputKind.{InputKind}
use Rattle.circuit.specs.declared.record.Record.{Record}
use Rattle.circuit.specs.declared.record.Record.TheVariants.{Input, Constant, Operator, Multiplexer, Register, Enabled}
use Rattle.circuit.specs.declared.refusal.Ground.TheVariants.{StimuliNotWhole, TooManyStimuli}
use Rattle.circuit.specs.declared.refusal.Ground.TheVariants.{NotAnInput, PokeTooWide, FixedInput}
use Rattle.std.specs.Prelude.{Ok}
use Rattle.circuit.specs.Refusal.{passed}
use Rattle.std.specs.Prelude.{Ok}
use Rattle.circuit.specs.Record.{width, input_of}
use Rattle.circuit.specs.Circuit.{Circuit, record_of}
use Rattle.circuit.specs.Stimuli.{stimulus_kind, stimulus_variable, stimulus_value, stimulus_of, stimulus_at}
use Rattle.circuit.specs.Stimuli.{bad_stimulus, read_from, read_stimulus, is_input, fixed_to_other}
use Rattle.circuit.specs.Stimuli.{check_stimulus, check_stimuli_from, check_stimuli, stimuli, Accepted}
use Rattle.circuit.proofs.Passing.{then_passed, refuse_passed}

-- the stimulus of a stimulus's kind, variable and value is that stimulus
pub stimulus_of_lem : (x : Stimulus) → stimulus_of (stimulus_kind x) (stimulus_variable x) (stimulus_value x) ≡ x
stimulus_of_lem (Poke v x) = refl
stimulus_of_lem Tick = refl

-- none of grounds 15 to 17 holds of a poke of v with x
pub record Poked (c : Circuit) (v x : ℕ) : Type 0 where
  pub below : v < length c
  pub is_input_lem : is_input (input_of (record_of c v)) ≡ true
  pub fits : x < 2 ^ width (record_of c v)
  pub allowed : fixed_to_other (input_of (record_of c v)) x ≡ false

pub both_true : (a b : Bool) → (a && b) ≡ true → (a ≡ true) × (b ≡ true)
both_true true b e = (refl, e)
both_true false b e = absurd (let z : ◌≡◌ {A = ℕ} 0 1 = cc in omega arith)

-- a poke that passes meets none of the three tests
poke_tests : (c : Circuit) (v x i : ℕ) → check_stimulus c (Ok (Poke v x)) i ≡ passed
    → (not (ltb v (length c) && is_input (input_of (record_of c v))) ≡ false)
    × (leb (2 ^ width (record_of c v)) x ≡ false)
    × (fixed_to_other (input_of (record_of c v)) x ≡ false)
poke_tests c v x i e =
    let (e15, p17) = refuse_passed NotAnInput i (not (ltb v (length c) && is_input (input_of (record_of c v)))) _ e in
    let (e17, p16) = refuse_passed FixedInput i (fixed_to_other (input_of (record_of c v)) x) _ p17 in
    let (e16, p) = refuse_passed PokeTooWide i (leb (2 ^ width (record_of c v)) x) _ p16 in
    (e15, e16, e17)

pub poke_passed : (c : Circuit) (v x i : ℕ) → check_stimulus c (Ok (Poke v x)) i ≡ passed → Poked c v x
poke_passed c v x i e =
    let (e15, e16, e17) = poke_tests c v x i e in
    let q = both_true (ltb v (length c)) (is_input (input_of (record_of c v))) (not-false _ e15) in
    record {
      below = ltb-true v (length c) q.0;
      is_input_lem = q.1;
      fits = leb-false (2 ^ width (record_of c v)) x e16;
      allowed = e17;
    }

-- an input's record is one
pub input_record : (r : Record) → is_input (input_of r) ≡ true → (w : ℕ) × (k : InputKind) × (r ≡ Input w k)
input_record (Input w k) e = (w, k, refl)
input_record (Constant w n) e = absurd (let z : ◌≡◌ {A = ℕ} 0 1 = cc in omega arith)
input_record (Operator w op a b) e = absurd (let z : ◌≡◌ {A = ℕ} 0 1 = cc in omega arith)
input_record (Multiplexer w a b c) e = absurd (let z : ◌≡◌ {A = ℕ} 0 1 = cc in omega arith)
input_record (Register w a n) e = absurd (let z : ◌≡◌ {A = ℕ} 0 1 = cc in omega arith)
input_record (Enabled w a b n) e = absurd (let z : ◌≡◌ {A = ℕ} 0 1 = cc in omega arith)

-- ---- the list

module _ (c : Circuit) where
  -- whether a stimulus passes does not depend on its place
  passed_anywhere : (x : Stimulus) (i j : ℕ) → check_stimulus c (Ok x) i ≡ passed
      → check_stimulus c (Ok x) j ≡ passed
  passed_anywhere Tick i j e = refl
  passed_anywhere (Poke v x) i j e = let (e15, e16, e17) = poke_tests c v x i e in rw (e15, e16, e17)

  -- a stimulus that passes has been read
  read_passed : (bad : Bool) (x : Stimulus) (i : ℕ) → check_stimulus c (read_from bad x) i ≡ passed
      → (bad ≡ false) × (check_stimulus c (Ok x) 0 ≡ passed)
  read_passed true x i e = absurd (let z : ◌≡◌ {A = ℕ} 0 1 = cc in omega arith)
  read_passed false x i e = (refl, passed_anywhere x i 0 e)

  -- none of grounds 14 to 17 holds of the stimulus at a place
  abbrev pub PassedAt : List ℕ → ℕ → Type 0
  PassedAt s at = (bad_stimulus s at ≡ false) × (check_stimulus c (Ok (stimulus_at s at)) 0 ≡ passed)

  passed_from : (s : List ℕ) (count i : ℕ) → check_stimuli_from c s count i ≡ passed
      → (j : ℕ) → i ≤ j → j < i + count → PassedAt s (j * 8)
  unfolding check_stimuli_from
  passed_from s zero i e j low high = absurd (omega arith)
  passed_from s (suc count) i e j low high =
      let (here, later) =
      then_passed (check_stimulus c (read_stimulus s (i * 8)) i) (check_stimuli_from c s count (i + 1)) e in
      elim (ℕ_discrete i j) [
        | yes q ↦
            subst (λ (k : ℕ). PassedAt s (k * 8)) q
            (read_passed (bad_stimulus s (i * 8)) (stimulus_at s (i * 8)) i here)
        | no q ↦ passed_from s count (i + 1) later j (omega arith) (omega arith)
      ]

  -- none holds of any stimulus of a list that passes
  pub stimulus_passed : (s : List ℕ) → check_stimuli c s ≡ passed → (i : ℕ) → i < length s / 8 → PassedAt s (i * 8)
  unfolding check_stimuli
  stimulus_passed s e i h =
      let p12 = refuse_passed StimuliNotWhole 0 (not (eqb (length s % 8) 0)) _ e in
      let p13 = refuse_passed TooManyStimuli 0 (ltb 4096 (length s / 8)) _ p12.1 in
      passed_from s (length s / 8) 0 p13.1 i (omega arith) (omega arith)

  accepted_below : (f : ℕ → Stimulus) (n : ℕ) → ((i : ℕ) → i < n → check_stimulus c (Ok (f i)) 0 ≡ passed)
      → Accepted c (list_below f n)
  unfolding list_below
  accepted_below f zero h = tt
  accepted_below f (suc n) h =
      (h 0 (omega arith), accepted_below (λ i. f (suc i)) n (λ i l. h (suc i) (omega arith)))

  -- a list that passes is accepted
  pub stimuli_accepted : (s : List ℕ) → check_stimuli c s ≡ passed → Accepted c (stimuli s)
  unfolding stimuli
  stimuli_accepted s e = accepted_below (λ i. stimulus_at s (i * 8)) (length s / 8)
      (λ i h. (stimulus_passed s e i h).1)

  -- the lengths of a list that passes
  pub stimuli_lengths : (s : List ℕ) → check_stimuli c s ≡ passed → (length s % 8 ≡ 0) × (length s / 8 ≤ 4096)
  unfolding check_stimuli
  stimuli_lengths s e =
      let (whole, rest) = refuse_passed StimuliNotWhole 0 (not (eqb (length s % 8) 0)) _ e in
      let (few, last) = refuse_passed TooManyStimuli 0 (ltb 4096 (length s / 8)) _ rest in
      (eqb-true _ _ (not-false _ whole), ltb-false _ _ few)

  pass_from : (s : List ℕ) (count i : ℕ) → ((j : ℕ) → i ≤ j → j < i + count → PassedAt s (j * 8))
      → check_stimuli_from c s count i ≡ passed
  unfolding check_stimuli_from
  pass_from s zero i h = refl
  pass_from s (suc count) i h =
      let (good, passed) = h i (omega arith) (omega arith) in
      rw (good, passed_anywhere _ 0 i passed)
      (pass_from s count (i + 1) (λ j low high. h j (omega arith) (omega arith)))

  -- a list of such lengths passes where each of its stimuli does
  pub stimuli_pass : (s : List ℕ) → length s % 8 ≡ 0 → length s / 8 ≤ 4096
      → ((i : ℕ) → i < length s / 8 → PassedAt s (i * 8)) → check_stimuli c s ≡ passed
  unfolding check_stimuli
  stimuli_pass s whole few h =
      rw (eq-eqb (length s % 8) 0 whole, le-ltb 4096 (length s / 8) few)
      (pass_from s (length s / 8) 0 (λ j low high. h j (omega arith)))

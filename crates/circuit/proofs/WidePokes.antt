-- Of a table that meets none of grounds 5 to 10, ground 16 holds of free and secret inputs only: a poke of a fixed one
-- meets ground 17 first, or has its number, which fits.
-- Assumes nothing.
use Rattle.std.proofs.Common.{◌≡◌, ℕ, ◌*◌, ◌/◌, ◌^◌, ◌<◌, ◌≤◌, true, false, ltb, ◌⊎◌, List, length, refl, inl, inr, arith, ltb-true, eqb-true, leb-true}
use mathlib.Core.Option.{Option, some}
use borrow.Author.Tests.{not-false}
use Rattle.net.specs.declared.Stimulus.TheVariants.{Poke}
use Rattle.circuit.specs.declared.record.InputKind.{InputKind}
use Rattle.circuit.specs.declared.record.InputKind.TheVariants.{Fixed, Free, Secret}
use Rattle.circuit.specs.declared.record.Record.TheVariants.{Input}
use Rattle.circuit.specs.declared.refusal.Ground.{Ground}
use Rattle.std.specs.Prelude.{Ok}
use Rattle.circuit.specs.Refusal.{passed}
use Rattle.std.specs.Prelude.{Ok}
use Rattle.circuit.specs.Refusal.{ground_number}
use Rattle.circuit.specs.Record.{width, input_of}
use Rattle.circuit.specs.Reading.{encode}
use Rattle.circuit.specs.Circuit.{Circuit, circuit, record_of}
use Rattle.circuit.specs.Checks.{check_records}
use Rattle.circuit.specs.Stimuli.{bad_stimulus, stimulus_at, read_stimulus, is_input, fixed_to_other, check_stimuli}
use Rattle.circuit.proofs.Tables.{circuit_length, encoded_valid}
use Rattle.circuit.proofs.Stimuli.{both_true, input_record}
use Rattle.circuit.proofs.Places.{Refusals, stimulus_refusals, list_refusals}

-- an input that is free or secret
abbrev pub FreeOrSecret : Option InputKind → Type 0
FreeOrSecret k = (k ≡ some Free) ⊎ (k ≡ some Secret)

-- stimulus i of a list pokes a free or a secret input with a value that does not fit it
pub record WidePoke (c : Circuit) (s : List ℕ) (i : ℕ) : Type 0 where
  pub listed : i < length s / 8
  pub variable : ℕ
  pub value : ℕ
  pub read : read_stimulus s (i * 8) ≡ Ok (Poke variable value)
  pub below : variable < length c
  pub free_or_secret : FreeOrSecret (input_of (record_of c variable))
  pub wide : 2 ^ width (record_of c variable) ≤ value

-- an input whose value fits, and that is not fixed to another number than x, is free or secret where x does not fit
not_fixed : (w : ℕ) (k : InputKind) (x : ℕ) → (encode (Input w k)).value < 2 ^ w → fixed_to_other (some k) x ≡ false
    → 2 ^ w ≤ x → FreeOrSecret (some k)
not_fixed w (Fixed n) x fits own wide = absurd (omega (arith, eqb-true x n (not-false _ own)))
not_fixed w Free x fits own wide = inl refl
not_fixed w Secret x fits own wide = inr refl

module _ (t : List ℕ) (n : ℕ) (valid : check_records t n ≡ passed) (s : List ℕ) where
  abbrev c : Circuit
  c = circuit t n

  -- so of an input of the table, whose value ground 10 let pass
  not_fixed_at : (v x : ℕ) → v < length c → is_input (input_of (record_of c v)) ≡ true
      → fixed_to_other (input_of (record_of c v)) x ≡ false → 2 ^ width (record_of c v) ≤ x
      → FreeOrSecret (input_of (record_of c v))
  not_fixed_at v x below is own wide =
      let (w, k, e) = input_record (record_of c v) is in
      let fits = (encoded_valid t n valid v (omega (arith, circuit_length t n))).value in
      rw e (not_fixed w k x (rw e at fits) (rw e at own) (rw e at wide))

  -- what is said of a refusal on ground 16, and of no other
  abbrev Wide : Ground → ℕ → Type 0
  Wide reason i = ground_number reason ≡ 16 → WidePoke c s i

  -- a list that is refused on ground 16 has such a poke at the place
  pub wide_refusals : Refusals (λ reason place. ground_number reason ≡ 16 → WidePoke (circuit t n) s place)
      (check_stimuli (circuit t n) s)
  wide_refusals =
      list_refusals Wide c s (λ e. absurd (omega (arith, e))) (λ e. absurd (omega (arith, e)))
      (λ few i listed.
      stimulus_refusals Wide c i (λ e. absurd (omega (arith, e))) (λ e. absurd (omega (arith, e)))
      (λ e. absurd (omega (arith, e))) (bad_stimulus s (i * 8)) (stimulus_at s (i * 8))
      (λ v x read input own e16 _.
      let q = both_true (ltb v (length c)) (is_input (input_of (record_of c v))) input in
      let below = ltb-true v (length c) q.0 in
      let wide = leb-true (2 ^ width (record_of c v)) x e16 in
      record {
        listed = listed;
        variable = v;
        value = x;
        read = read;
        below = below;
        free_or_secret = not_fixed_at v x below q.1 own wide;
        wide = wide;
      }))

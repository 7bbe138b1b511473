-- Two lists of stimuli that are alike in their bytes are alike: their ticks stand at the same places, and their pokes
-- differ only in values of inputs that read as secret.
-- Assumes nothing.
use mathlib.Core.Path.{◌≡◌, subst}
use mathlib.Core.Logic.{◌⊎◌, inl, inr}
use mathlib.Core.List.{List, [], ◌∷◌}
use Prim.Native.Nat.{ℕ, zero, suc, ◌+◌, ◌*◌, ◌/◌, ◌<◌, suc-le-suc}
use native.Mathlib.Omega.{arith}
use lib.Dec.{T}
use lib.ListN.{length}
use Rattle.std.specs.Prelude.{Ok}
use Rattle.net.specs.declared.Stimulus.{Stimulus}
use Rattle.net.specs.declared.Stimulus.TheVariants.{Poke}
use Rattle.net.specs.Net.{list_below}
use Rattle.net.specs.Machine.{Alike, none, ticks, pokes}
use Rattle.circuit.specs.Refusal.{passed}
use Rattle.circuit.specs.Number.{u16_at, u32_at}
use Rattle.circuit.specs.Record.{input_of}
use Rattle.circuit.specs.Reading.{fields_at}
use Rattle.circuit.specs.Circuit.{Circuit, circuit, record_of}
use Rattle.circuit.specs.Stimuli.{stimulus_at, check_stimulus, check_stimuli, stimuli}
use Rattle.circuit.proofs.Decoding.{decode_input}
use Rattle.circuit.proofs.Tables.{circuit_length, circuit_record}
use Rattle.circuit.proofs.Stimuli.{poke_passed, stimulus_passed}
use Rattle.fact.specs.TwoRuns.{is_secret, AlikeLists}
use Rattle.guarantee.specs.TwoRuns.{SecretInput, BothTick, BothPoke, AlikeStimuli}

-- a relation of two lists that holds of empty ones, and stays when stimulus i of each is put in front, holds of both
pub lists_below : (P : List Stimulus → List Stimulus → Type 0) (f g : ℕ → Stimulus) (n : ℕ) → P [] []
    → ((i : ℕ) → i < n → (xs ys : List Stimulus) → P xs ys → P (f i ∷ xs) (g i ∷ ys))
    → P (list_below f n) (list_below g n)
unfolding list_below
lists_below P f g zero start h = start
lists_below P f g (suc n) start h =
    h 0 (omega arith) _ _
    (lists_below P (λ i. f (suc i)) (λ i. g (suc i)) n start (λ i below. h (suc i) (suc-le-suc below)))

-- a record whose byte 0 is 0 and whose byte 2 is 2 reads as a secret input
secret_read : (t : List ℕ) (n v : ℕ) → v < n → SecretInput t v → T (is_secret (input_of (record_of (circuit t n) v)))
secret_read t n v below (kind, code) =
    rw (circuit_record t n v below, decode_input (fields_at t (v * 16)) kind, code) tt

module _ (t s s' : List ℕ) (n : ℕ) where
  abbrev c : Circuit
  c = circuit t n

  abbrev Same : ℕ → ℕ → ℕ → Type 0
  Same v x y = (x ≡ y) ⊎ T (is_secret (input_of (record_of c v)))

  -- the values of two pokes of one variable
  values_alike : (v x y y' : ℕ) → check_stimulus c (Ok (Poke v x)) 0 ≡ passed → (y ≡ y') ⊎ SecretInput t v
      → Same v y y'
  values_alike v x y y' e (inl q) = inl q
  values_alike v x y y' e (inr q) =
      inr (secret_read t n v (omega (arith, (poke_passed c v x 0 e).below, circuit_length t n)) q)

  -- both stimuli at a place, in front of two alike lists
  alike_at : (at : ℕ) → check_stimulus c (Ok (stimulus_at s at)) 0 ≡ passed → BothTick s s' at ⊎ BothPoke t s s' at
      → (xs ys : List Stimulus) → Alike Same xs ys → Alike Same (stimulus_at s at ∷ xs) (stimulus_at s' at ∷ ys)
  alike_at at e (inl (tick, tick')) xs ys h = rw (tick, tick') (ticks h)
  alike_at at e (inr p) xs ys h =
      let here : check_stimulus c (Ok (Poke (u16_at s (at + 2)) (u32_at s (at + 4)))) 0 ≡ passed =
      rw p.pokes.0 at e in
      rw (p.pokes.0, p.pokes.1, ← p.same_variable) (pokes (values_alike _ _ _ _ here p.same_value) h)

  -- lists that are alike in bytes are alike
  pub lists_alike : check_stimuli c s ≡ passed → AlikeStimuli t s s' → AlikeLists c (stimuli s) (stimuli s')
  unfolding stimuli
  lists_alike e a =
      subst (λ (k : ℕ). AlikeLists c (stimuli s) (list_below (λ i. stimulus_at s' (i * 8)) (k / 8))) a.equally_long
      (lists_below (AlikeLists c) (λ i. stimulus_at s (i * 8)) (λ i. stimulus_at s' (i * 8)) (length s / 8) none
      (λ i below. alike_at (i * 8) (stimulus_passed c s e i below).1 (a.alike i below)))

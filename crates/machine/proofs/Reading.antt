-- The reader among the stimuli of a list, and what a stimulus of a list that passed reads as.
-- Assumes nothing.
use mathlib.Core.Path.{◌≡◌, ap, ap₂, ◌∙◌}
use mathlib.Core.Bool.{false}
use mathlib.Core.List.{List}
use Prim.Native.Nat.{ℕ, ◌+◌, ◌*◌, ◌/◌, ◌<◌, ◌≤◌}
use native.Mathlib.Omega.{arith}
use lib.ListN.{length}
use Rattle.std.proofs.Common.{Some, None}
use Rattle.net.specs.declared.Stimulus.{Stimulus}
use Rattle.std.specs.Prelude.{Result}
use Rattle.circuit.specs.declared.refusal.Ground.{Ground}
use Rattle.circuit.specs.Stimuli.{stimulus_at, bad_stimulus, read_stimulus}
use Rattle.machine.specs.declared.reader.StimulusReader.{StimulusReader}
use Rattle.machine.specs.Reading.{ReadsNext, stimulus_in}

-- the reader is at stimulus i of the list
pub record ReadTo (s : List ℕ) (i : ℕ) (r : StimulusReader) : Type 0 where
  pub list : r.stimuli.now ≡ s
  pub place : r.at ≡ i * 8

module _ {s : List ℕ} {i : ℕ} {r : StimulusReader} (p : ReadTo s i r) (r' : StimulusReader) where
  -- it reads that stimulus, and is at the next one
  pub read_next : {read : (Result Stimulus Ground)} → ReadsNext r (Some read) r'
      → (i < length s / 8) × (read ≡ read_stimulus s (i * 8)) × ReadTo s (i + 1) r'
  read_next (more, is, (same, moved)) = (
    omega (arith, more, p.place, ap length p.list),
    is ∙ ap₂ read_stimulus p.list p.place,
    record { list = ap (λ b. b.now) same ∙ p.list; place = omega (arith, moved, p.place) },
  )

  -- or there is none
  pub read_all : ReadsNext r None r' → length s / 8 ≤ i
  read_all none = omega (arith, none, p.place, ap length p.list)

-- where ground 14 does not hold, the stimulus that was read is the one that stands there
pub stimulus_told : {x : Stimulus} {read : (Result Stimulus Ground)} (s : List ℕ) (at : ℕ) → x ≡ stimulus_in read
    → read ≡ read_stimulus s at → bad_stimulus s at ≡ false → x ≡ stimulus_at s at
stimulus_told s at told is good = rw (told, is, good)

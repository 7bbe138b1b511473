-- Document 01's stimuli from their bytes, 8 a stimulus, and grounds 12 to 17 in order, 17 before 16 as request S-6 has
-- it.
-- Assumes nothing.
use Rattle.circuit.specs.declared.refusal.Ground.{Ground}
use Rattle.std.specs.Prelude.{◌≡◌, ℕ, zero, suc, ◌+◌, ◌*◌, ◌/◌, ◌%◌, ◌^◌, Bool, true, false, not, ◌&&◌, ◌||◌, List, [], ◌∷◌, length, ◌==◌, nat_le, nat_lt, slice_index, slice_index_or}
use Rattle.std.proofs.Math.Option.{Option, none, some}
use Rattle.net.specs.declared.Stimulus.{Stimulus}
use Rattle.net.specs.declared.Stimulus.TheVariants.{Poke, Tick}
use Rattle.net.specs.Net.{list_below}
use Rattle.circuit.specs.declared.refusal.Ground.TheVariants.{StimuliNotWhole, TooManyStimuli, BadStimulus, NotAnInput, PokeTooWide, FixedInput}
use Rattle.circuit.specs.Refusal.{Check}
use Rattle.std.specs.Prelude.{Ok, Err}
use Rattle.circuit.specs.Refusal.{passed, refused}
use Rattle.std.specs.Prelude.{Result}
use Rattle.std.specs.Prelude.{Ok, Err}
use Rattle.circuit.specs.declared.record.InputKind.{InputKind}
use Rattle.circuit.specs.declared.record.InputKind.TheVariants.{Fixed, Free, Secret}
use Rattle.circuit.specs.Number.{u16_at, u32_at}
use Rattle.circuit.specs.Refusal.{refuse, ◌then◌}
use Rattle.circuit.specs.Record.{width, input_of}
use Rattle.circuit.specs.Circuit.{Circuit, record_of}

-- document 01's kind, variable and value of each stimulus
abbrev pub stimulus_kind : Stimulus → ℕ
stimulus_kind (Poke v x) = 0
stimulus_kind Tick = 1

abbrev pub stimulus_variable : Stimulus → ℕ
stimulus_variable (Poke v x) = v
stimulus_variable Tick = 0

abbrev pub stimulus_value : Stimulus → ℕ
stimulus_value (Poke v x) = x
stimulus_value Tick = 0

-- the stimulus of a kind, a variable and a value; ground 14 turns away every other kind, which reads as a tick here
abbrev pub stimulus_of : ℕ → ℕ → ℕ → Stimulus
stimulus_of kind v x = slice_index_or (Poke v x ∷ []) kind Tick

-- the stimulus of the 8 bytes from a place on
abbrev pub stimulus_at : List ℕ → ℕ → Stimulus
stimulus_at s at = stimulus_of (slice_index s at) (u16_at s (at + 2)) (u32_at s (at + 4))

-- ground 14, of a stimulus's numbers: the kind, byte 1, and a tick's variable and value
abbrev pub bad_numbers : ℕ → ℕ → ℕ → ℕ → Bool
bad_numbers kind byte1 v x = nat_lt 1 kind || not (byte1 == 0) || (kind == 1 && not (v == 0 && x == 0))

-- and of the 8 bytes from a place on
abbrev pub bad_stimulus : List ℕ → ℕ → Bool
bad_stimulus s at = bad_numbers (slice_index s at) (slice_index s (at + 1)) (u16_at s (at + 2)) (u32_at s (at + 4))

-- the stimulus, or ground 14 where the test holds
abbrev pub read_from : Bool → Stimulus → Result Stimulus Ground
read_from true x = Err BadStimulus
read_from false x = Ok x

-- the stimulus of the 8 bytes from a place on, or ground 14
abbrev pub read_stimulus : List ℕ → ℕ → Result Stimulus Ground
read_stimulus s at = read_from (bad_stimulus s at) (stimulus_at s at)

abbrev pub is_input : Option InputKind → Bool
is_input (some k) = true
is_input none = false

-- an input that is fixed to another number
abbrev pub fixed_to_other : Option InputKind → ℕ → Bool
fixed_to_other (some (Fixed n)) x = not (x == n)
fixed_to_other (some Free) x = false
fixed_to_other (some Secret) x = false
fixed_to_other none x = false

-- grounds 14 to 17 of stimulus i: a poke names an input of the table, with a value that a fixed one has and that fits
abbrev pub check_stimulus : Circuit → Result Stimulus Ground → ℕ → Check
check_stimulus c (Err reason) i = refused reason i
check_stimulus c (Ok Tick) i = passed
check_stimulus c (Ok (Poke v x)) i =
    refuse NotAnInput i (not (nat_lt v (length c) && is_input (input_of (record_of c v))))
    (refuse FixedInput i (fixed_to_other (input_of (record_of c v)) x)
    (refuse PokeTooWide i (nat_le (2 ^ width (record_of c v)) x) passed))

-- grounds 14 to 17 of `count` stimuli from stimulus i on
unfoldable pub check_stimuli_from : Circuit → List ℕ → ℕ → ℕ → Check
check_stimuli_from c s zero i = passed
check_stimuli_from c s (suc count) i = check_stimulus c (read_stimulus s (i * 8)) i then check_stimuli_from c s count (i + 1)

-- grounds 12 to 17 of a list of stimuli in bytes
unfoldable pub check_stimuli : Circuit → List ℕ → Check
unfolding check_stimuli_from
check_stimuli c s =
    refuse StimuliNotWhole 0 (not (length s % 8 == 0))
    (refuse TooManyStimuli 0 (nat_lt 4096 (length s / 8))
    (check_stimuli_from c s (length s / 8) 0))

-- the stimuli of a list in bytes, read without a check
unfoldable pub stimuli : List ℕ → List Stimulus
unfolding list_below
stimuli s = list_below (λ i. stimulus_at s (i * 8)) (length s / 8)

-- ---- lists of stimuli of any length

-- no stimulus of the list meets one of grounds 15 to 17
abbrev pub Accepted : Circuit → List Stimulus → Type 0
Accepted c [] = Unit {0}
Accepted c (x ∷ xs) = (check_stimulus c (Ok x) 0 ≡ passed) × Accepted c xs

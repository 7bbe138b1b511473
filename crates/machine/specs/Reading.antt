-- The reader of stimuli, and what was read.
-- Assumes nothing.
use Rattle.std.specs.Prelude.{◌≡◌, ◌+◌, ◌≤◌, ◌<◌, Option, MatchOption, length}
use Rattle.net.specs.declared.Stimulus.{Stimulus}
use Rattle.net.specs.declared.Stimulus.TheVariants.{Tick}
use Rattle.std.specs.Prelude.{Result}
use Rattle.circuit.specs.declared.refusal.Ground.{Ground}
use Rattle.std.specs.Prelude.{Ok, Err}
use Rattle.circuit.specs.Stimuli.{read_stimulus}
use Rattle.machine.specs.declared.reader.StimulusReader.{StimulusReader}

-- moved on by one record of 8 bytes: the same list, and the place of the next record
abbrev pub Moved : StimulusReader → StimulusReader → Type 0
Moved r r' = (r'.stimuli ≡ r.stimuli) × (r'.at ≡ r.at + 8)

-- no record is left, or the next one is read and the reader moves on
abbrev pub ReadsNext : StimulusReader → Option (Result Stimulus Ground) → StimulusReader → Type 0
ReadsNext r next r' =
    MatchOption next (length r.stimuli.now < r.at + 8)
    (λ read. (r.at + 8 ≤ length r.stimuli.now) × (read ≡ read_stimulus r.stimuli.now r.at) × Moved r r')

-- the stimulus that was read; ground 14, of which a list that passed has none, would be a tick
abbrev pub stimulus_in : (Result Stimulus Ground) → Stimulus
stimulus_in (Ok x) = x
stimulus_in (Err reason) = Tick

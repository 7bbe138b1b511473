-- What a list of stimuli leaves in the values, by what is answered, for contracts of what reads and runs it.
-- Assumes nothing.
use Rattle.std.specs.Prelude.{◌≡◌, List, ℕ}
use Rattle.buffer.specs.Store.{numbers, Holds}
use Rattle.circuit.specs.Refusal.{passed}
use Rattle.std.specs.Prelude.{Ok, Err}
use Rattle.circuit.specs.Circuit.{Circuit}
use Rattle.circuit.specs.Machine.{machine}
use Rattle.circuit.specs.Stimuli.{check_stimuli, stimuli}
use Rattle.std.specs.Prelude.{Result}
use Rattle.circuit.specs.declared.refusal.Refusal.{Refusal}
use Rattle.std.specs.Prelude.{Ok, Err}

-- an accepted list has run on a circuit of n variables; a refused one has changed no value
abbrev pub ListAnswered : Circuit → ℕ → List ℕ → List ℕ → List ℕ → Result Unit Refusal → Type 0
ListAnswered c n s entry exit (Ok u) =
    (check_stimuli c s ≡ passed) × Holds numbers n (machine c (stimuli s)) entry exit
ListAnswered c n s entry exit (Err r) = (check_stimuli c s ≡ Err r) × (exit ≡ entry)

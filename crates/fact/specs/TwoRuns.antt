-- Demand 3 in definitions: which two lists of stimuli are compared, and what a fact claims of a variable's values in
-- the two runs.
-- Assumes nothing.
use Rattle.std.specs.Prelude.{◌≡◌, ◌⊎◌, Bool, true, false, List, ℕ, T}
use Rattle.std.proofs.Math.Option.{Option, none, some}
use Rattle.net.specs.declared.Stimulus.{Stimulus}
use Rattle.net.specs.Machine.{Alike}
use Rattle.circuit.specs.declared.record.InputKind.{InputKind}
use Rattle.circuit.specs.declared.record.InputKind.TheVariants.{Fixed, Free, Secret}
use Rattle.circuit.specs.Record.{input_of}
use Rattle.circuit.specs.Circuit.{Circuit, record_of}
use Rattle.fact.specs.declared.Fact.{Fact}
use Rattle.fact.specs.declared.Fact.TheVariants.{Always, Open, Marked}

-- an input whose byte 2 is 2
abbrev pub is_secret : Option InputKind → Bool
is_secret (some (Fixed n)) = false
is_secret (some Free) = false
is_secret (some Secret) = true
is_secret none = false

-- at each place both tick, or both poke the same variable with the same value; only into a secret input may the
-- values differ
abbrev pub AlikeLists : Circuit → List Stimulus → List Stimulus → Type 0
AlikeLists c = Alike (λ i x y. (x ≡ y) ⊎ T (is_secret (input_of (record_of c i))))

-- always n: both values are n; open: they are the same; marked: nothing is claimed
pub data Claims : Fact → ℕ → ℕ → Type 0 where
  number : {n : ℕ} → Claims (Always n) n n
  alike : {x : ℕ} → Claims Open x x
  nothing : {x y : ℕ} → Claims Marked x y

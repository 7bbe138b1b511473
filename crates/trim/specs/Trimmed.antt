-- The trimmed circuit: wires and registers that are called always are constants, what no kept variable reaches is
-- dropped, and what remains is renumbered.
-- Assumes nothing.
use Rattle.std.specs.Prelude.{Bool, ◌||◌, ℕ, length}
use mathlib.Core.List.{List, map}
use Rattle.net.specs.Net.{input, wire, register, list_below}
use Rattle.net.specs.Reach.{is_in, reached_set}
use Rattle.net.specs.Chosen.{chosen, place_of}
use Rattle.circuit.specs.declared.record.Record.{Record}
use Rattle.circuit.specs.declared.record.Record.TheVariants.{Constant}
use Rattle.circuit.specs.Record.{width, role, input_of, renumber}
use Rattle.circuit.specs.Circuit.{Circuit, record_of, graph}
use Rattle.circuit.specs.Stimuli.{is_input}
use Rattle.fact.specs.declared.Fact.{Fact}
use Rattle.fact.specs.declared.Fact.TheVariants.{Always, Open, Marked}

-- a constant of the same width where the fact is always, else the record
abbrev pub constant_if : Fact → Record → Record
constant_if (Always m) r = Constant (width r) m
constant_if Open r = r
constant_if Marked r = r

-- a wire or a register that is called always becomes a constant; an input stays
abbrev pub replace : Fact → Record → Record
replace f r = elim (role r) [ input ↦ r | wire ↦ constant_if f r | register ↦ constant_if f r ]

-- the circuit with each record replaced by its fact
unfoldable pub replaced : Circuit → (ℕ → Fact) → Circuit
unfolding list_below
replaced c s = list_below (λ v. replace (s v) (record_of c v)) (length c)

-- of a circuit so replaced, and the kept variables
module _ (c : Circuit) (kept : List ℕ) where
  -- v remains: it is an input, it is kept, or a kept variable reaches it
  unfoldable pub survives : ℕ → Bool
  unfolding reached_set
  survives v = is_input (input_of (record_of c v)) || is_in (reached_set (graph c) kept) v

  -- the survivors in order: number j is the old number of new record j
  unfoldable pub survivors : List ℕ
  unfolding chosen survives
  survivors = chosen survives (length c)

  -- the new number of a survivor
  unfoldable pub new_number : ℕ → ℕ
  unfolding place_of survives
  new_number = place_of survives

  -- the survivors' records, renumbered
  unfoldable pub trimmed : Circuit
  unfolding survivors new_number
  trimmed = map (λ v. renumber new_number (record_of c v)) survivors

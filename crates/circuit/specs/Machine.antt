-- Document 01's bench machine of a circuit, with request S-3's power-on: its state is one value a variable.
-- Assumes nothing.
use Rattle.std.specs.Prelude.{ℕ, ◌%◌, ◌^◌, cond, List, ◌==◌}
use Rattle.net.specs.declared.Stimulus.{Stimulus}
use Rattle.net.specs.Net.{settle}
use Rattle.net.specs.Machine.{run}
use Rattle.circuit.specs.declared.record.Record.{Record}
use Rattle.circuit.specs.declared.record.Record.TheVariants.{Input, Constant, Operator, Multiplexer, Register, Enabled}
use Rattle.circuit.specs.Operator.{result}
use Rattle.circuit.specs.Circuit.{Circuit, record_of, graph}

-- a multiplexer takes B where A is not 0, else C, at width w
abbrev pub multiplex : ℕ → ℕ → ℕ → ℕ → ℕ
multiplex w a b c = cond (a == 0) c b % 2 ^ w

-- a register with an enable takes A, at width w, where B is not 0, else it holds what it has
abbrev pub take_or_hold : ℕ → ℕ → ℕ → ℕ → ℕ
take_or_hold w a b own = cond (b == 0) own (a % 2 ^ w)

-- what a record gives from a state: a wire's value, and the value that a register has after a tick; an input stays
unfoldable pub value : Record → (ℕ → ℕ) → ℕ → ℕ
unfolding result
value (Input w k) s own = own
value (Constant w n) s own = n
value (Operator w op a b) s own = result op w (s a) (s b)
value (Multiplexer w a b c) s own = multiplex w (s a) (s b) (s c)
value (Register w a n) s own = s a % 2 ^ w
value (Enabled w a b n) s own = take_or_hold w (s a) (s b) own

-- what every variable gets from a state
unfoldable pub values : Circuit → (ℕ → ℕ) → ℕ → ℕ
unfolding value
values c s v = value (record_of c v) s (s v)

-- what an input or a register holds at power-on: every input 0, a fixed one until n is poked into it; a register its
-- power-on value; wires follow
abbrev pub initial : Record → ℕ
initial (Input w k) = 0
initial (Constant w n) = 0
initial (Operator w op a b) = 0
initial (Multiplexer w a b c) = 0
initial (Register w a n) = n
initial (Enabled w a b n) = n

-- the state at power-on; in a circuit without a loop the wires hold the one set of values that satisfies all their
-- records
unfoldable pub power_on : Circuit → ℕ → ℕ
unfolding settle values
power_on c = settle (graph c) (values c) (λ v. initial (record_of c v))

-- the state after a list of stimuli, or at power-on where there is none
unfoldable pub machine : Circuit → List Stimulus → ℕ → ℕ
unfolding run values power_on
machine c xs = run (graph c) (values c) xs (power_on c)

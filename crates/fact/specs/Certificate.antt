-- The rounds of a circuit, their count, and the certificate as a store.
-- Assumes nothing.
use Rattle.std.specs.Prelude.{ℕ, suc, ◌*◌}
use Rattle.net.specs.Net.{sum_registers, settle, count, stopped, Least}
use Rattle.circuit.specs.declared.record.Record.{Record}
use Rattle.circuit.specs.declared.record.Record.TheVariants.{Input, Constant, Operator, Multiplexer, Register, Enabled}
use Rattle.circuit.specs.Circuit.{Circuit, record_of, graph}
use Rattle.fact.specs.declared.Fact.{Fact}
use Rattle.fact.specs.declared.Fact.TheVariants.{Always, Open}
use Rattle.fact.specs.Fact.{◌⊑◌, same}
use Rattle.fact.specs.Rule.{input_rule, rule}

-- document 01's least closed store, which is the certificate; closed is, at every variable the store's fact is at or
-- above what the rule gives from that store
abbrev pub LeastStore : Circuit → (ℕ → Fact) → Type 0
LeastStore c s = Least (graph c) (rule c) ◌⊑◌ s

-- before any round an input has its fact and a register is always its power-on value; wires follow
abbrev pub initial_fact : Record → Fact
initial_fact (Input w k) = input_rule k
initial_fact (Constant w n) = Open
initial_fact (Operator w op a b) = Open
initial_fact (Multiplexer w a b c) = Open
initial_fact (Register w a n) = Always n
initial_fact (Enabled w a b n) = Always n

-- the store before any round
unfoldable pub initial_store : Circuit → ℕ → Fact
unfolding settle rule
initial_store c = settle (graph c) (rule c) (λ v. initial_fact (record_of c v))

-- R, the number of registers
unfoldable pub registers : Circuit → ℕ
unfolding sum_registers
registers c = sum_registers (graph c) (λ v. 1)

-- document 01's count of rounds; the limit is one more than it can be in a circuit without a loop, so it never stops
-- them
unfoldable pub rounds : Circuit → ℕ
unfolding count rule same registers initial_store
rounds c = count (graph c) (rule c) same (suc (2 * registers c)) (initial_store c)

-- document 01's certificate as a store: the one in which the rounds stop
unfoldable pub certificate : Circuit → ℕ → Fact
unfolding stopped rule same registers initial_store
certificate c = stopped (graph c) (rule c) same (suc (2 * registers c)) (initial_store c)

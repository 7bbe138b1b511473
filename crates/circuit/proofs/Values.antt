-- The machine's values: what a record gives depends on what it uses, and on its own value where it is no wire. In a
-- circuit without a loop, settling gives the one set of values that satisfies all wires' records, whatever its inputs
-- and registers hold, and so the machine's state satisfies them after every list of stimuli.
-- Assumes nothing.
use Rattle.std.proofs.Common.{◌≡◌, ℕ, ◌<◌, T, List, length, sym, refl}
use Rattle.net.specs.declared.Stimulus.{Stimulus}
use Rattle.net.specs.Tests.{member}
use Rattle.net.specs.Net.{input, wire, register, settle, Settled}
use Rattle.net.proofs.Bools.{member_1, member_2, member_3}
use Rattle.net.proofs.Settle.{input_wire, wire_register, Ranked, Local, Agree, settle_settled, settle_unique}
use Rattle.net.proofs.Machine.{run_settled}
use Rattle.circuit.specs.declared.record.Record.{Record}
use Rattle.circuit.specs.declared.record.Record.TheVariants.{Input, Constant, Operator, Multiplexer, Register, Enabled}
use Rattle.circuit.specs.Record.{role, uses}
use Rattle.circuit.specs.Circuit.{Circuit, record_of, graph}
use Rattle.circuit.specs.Machine.{value, values, initial, power_on, machine}
use Rattle.circuit.proofs.Tables.{Inside}

-- ---- what a value depends on

value_agree : (r : Record) (s t : ℕ → ℕ) (own own' : ℕ) → ((role r ≡ wire → ⊥) → own ≡ own')
    → ((u : ℕ) → T (member u (uses r)) → s u ≡ t u)
    → value r s own ≡ value r t own'
unfolding value
value_agree (Input w k) s t own own' e h = e (λ d. input_wire d)
value_agree (Constant w n) s t own own' e h = refl
value_agree (Operator w op a b) s t own own' e h = rw (h a (member_1 _ _), h b (member_2 _ _ _))
value_agree (Multiplexer w a b c) s t own own' e h =
    rw (h a (member_1 _ _), h b (member_2 _ _ _), h c (member_3 _ _ _ _))
value_agree (Register w a n) s t own own' e h = rw (h a (member_1 _ _))
value_agree (Enabled w a b n) s t own own' e h =
    rw (h a (member_1 _ _), h b (member_2 _ _ _), e (λ d. wire_register (sym d)))

-- a wire's value depends on what its record uses, and on nothing else
pub values_local : (c : Circuit) → Local (graph c) (values c)
unfolding values
values_local c s t v below e h = value_agree (record_of c v) s t (s v) (t v) (λ d. absurd (d e)) h

-- every variable gets the same from states that agree on the circuit's variables
pub values_agree : (c : Circuit) → Inside c → (s t : ℕ → ℕ) → Agree (graph c) s t
    → Agree (graph c) (values c s) (values c t)
unfolding values
values_agree c inside s t h v below =
    value_agree (record_of c v) s t (s v) (t v) (λ _. h v below) (λ u m. h u (inside v u below m))

-- ---- satisfied wires

module _ (c : Circuit) (r : Ranked (graph c)) where
  -- settling satisfies every wire's record
  pub wires_satisfied : (s : ℕ → ℕ) → Settled (graph c) (values c) (settle (graph c) (values c) s)
  wires_satisfied s = settle_settled r (values c) (values_local c) s

  -- and no other values do, with these inputs and registers
  pub wires_unique : (s t : ℕ → ℕ) → Settled (graph c) (values c) t
      → ((v : ℕ) → v < length c → role (record_of c v) ≡ input → t v ≡ s v)
      → ((v : ℕ) → v < length c → role (record_of c v) ≡ register → t v ≡ s v)
      → (v : ℕ) → v < length c → t v ≡ settle (graph c) (values c) s v
  wires_unique s t settled a b = settle_unique r (values c) (values_local c) s t settled a b

  -- the machine's state satisfies every wire's record, at power-on and after every list of stimuli
  pub machine_settled : (xs : List Stimulus) → Settled (graph c) (values c) (machine c xs)
  unfolding machine power_on
  machine_settled xs =
      run_settled r (values c) (values_local c) xs (power_on c) (wires_satisfied (λ v. initial (record_of c v)))

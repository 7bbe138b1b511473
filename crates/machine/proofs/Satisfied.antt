-- What an accepted bench call writes: each number is the machine's value of its variable in the end, and every wire's
-- number satisfies its record.
-- Assumes nothing.
use mathlib.Core.Path.{◌≡◌, sym, ap, ◌∙◌}
use mathlib.Core.List.{List}
use Prim.Native.Nat.{ℕ, ◌<◌}
use native.Mathlib.Omega.{arith}
use lib.ListN.{length, get_or, get_or-append}
use Rattle.net.specs.Net.{wire, list_below}
use Rattle.net.proofs.Lists.{length_list_below, get_or_list_below}
use Rattle.circuit.specs.Record.{role}
use Rattle.circuit.specs.Circuit.{Circuit, record_of}
use Rattle.circuit.specs.Machine.{values, machine}
use Rattle.circuit.specs.Stimuli.{stimuli}
use Rattle.circuit.proofs.Tables.{Inside, circuit_length, circuit_inside, circuit_ranked}
use Rattle.circuit.proofs.Values.{values_local, machine_settled}
use Rattle.call.specs.Call.{Lent, Left, output_of, size, circuit_of}
use Rattle.call.proofs.Parts.{table_checked}
use Rattle.std.specs.Prelude.{Ok}
use Rattle.machine.specs.Promise.{benching, Benches}

module _ (s : List ℕ) (l : Lent) (e : Left) (ran : Benches s l e (Ok tt)) where
  abbrev c : Circuit
  c = circuit_of l

  -- the number that the call leaves for a variable
  abbrev pub number : ℕ → ℕ
  number v = get_or (output_of e.outputs) v 0

  pub value_written : (v : ℕ) → v < size l → number v ≡ machine (circuit_of l) (stimuli s) v
  value_written v below =
      ap (λ (o : List (List ℕ)). get_or (output_of o) v 0) ran.accepts.values
      ∙ get_or-append (list_below (machine c (stimuli s)) (size l)) _ 0 v
      (omega (arith, length_list_below (machine c (stimuli s)) (size l)))
      ∙ get_or_list_below (machine c (stimuli s)) (size l) v 0 below

  inside : Inside c
  inside = circuit_inside l.table (size l) (table_checked (benching s) l ran.past.passed).valid

  pub wire_satisfied : (v : ℕ) → v < size l → role (record_of (circuit_of l) v) ≡ wire
      → number v ≡ values (circuit_of l) number v
  wire_satisfied v below e =
      let variable : v < length c = omega (arith, circuit_length l.table (size l)) in
      value_written v below
      ∙ machine_settled c (circuit_ranked c inside ran.past.no_loop) (stimuli s) v variable e
      ∙ values_local c (machine c (stimuli s)) number v variable e
      (λ u uses. sym (value_written u (omega (arith, circuit_length l.table (size l), inside v u variable uses))))

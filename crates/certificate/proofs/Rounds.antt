-- The rounds of a plan's facts: that they go on while the definition's do, where they stop, and what they leave.
-- Assumes nothing.
use mathlib.Core.Path.{◌≡◌}
use mathlib.Core.Bool.{Bool, true, false, not}
use mathlib.Core.List.{List}
use Prim.Native.Nat.{ℕ, ◌<◌, ◌≤◌}
use native.Mathlib.Omega.{arith}
use lib.ListN.{length}
use Rattle.net.specs.Tests.{all_below}
use Rattle.net.specs.Net.{stopped, Counts}
use Rattle.net.proofs.Sums.{registers_few}
use Rattle.buffer.specs.Store.{Layout, Holds}
use Rattle.buffer.proofs.Store.{stands_read}
use Rattle.circuit.specs.Circuit.{graph, NoLoop}
use Rattle.circuit.proofs.Tables.{Inside, circuit_length, circuit_inside}
use Rattle.fact.specs.declared.Fact.{Fact}
use Rattle.fact.specs.Fact.{same}
use Rattle.fact.specs.Rule.{rule}
use Rattle.fact.specs.Certificate.{initial_store, registers, rounds, certificate}
use Rattle.fact.proofs.Order.{same_eq, same_refl}
use Rattle.fact.proofs.Certificate.{rounds_counted, rounds_few}
use Rattle.schedule.proofs.Orders.{ordered_no_loop}
use Rattle.engine.specs.declared.plan.Plan.{Plan}
use Rattle.engine.specs.Plans.{circuit_of}
use Rattle.engine.specs.Registers.{stays_at}
use Rattle.engine.specs.Rules.{read_off}
use Rattle.engine.proofs.Rounds.{Running, still_running, run_stopped, run_end}
use Rattle.certificate.specs.Lawful.{lawful}

module _ (p : Plan) where
  inside : Inside (circuit_of p)
  inside = circuit_inside p.table.bytes.now p.table.records p.table.checked.valid

  no_loop : NoLoop (circuit_of p)
  no_loop = ordered_no_loop (circuit_of p) p.wires.now p.ordered

  counted : Counts (graph (circuit_of p)) (rule (circuit_of p)) (initial_store (circuit_of p)) (rounds (circuit_of p))
  counted = rounds_counted (circuit_of p) inside no_loop

  pub rounds_small : rounds (circuit_of p) ≤ 8192
  unfolding registers
  rounds_small =
      omega (
        arith,
        rounds_few (circuit_of p) inside no_loop,
        registers_few (graph (circuit_of p)),
        circuit_length p.table.bytes.now p.table.records,
        p.table.checked.small,
      )

  module _ {L : Layout Fact} {entry cells : List ℕ} {count : ℕ}
      (run : Running L p.table.bytes.now p.table.records (rule (circuit_of p)) (initial_store (circuit_of p)) (rounds (circuit_of p))
      entry cells count)
      {changed : Bool}
      (e : changed ≡ not (all_below (stays_at (circuit_of p) (rule (circuit_of p)) same (read_off L cells))
      (length p.registers.now))) where
    -- a round that changes a register is one of those counted
    pub goes_on : not changed ≡ false → count < rounds (circuit_of p)
    goes_on q =
        still_running run (lawful p.table.checked) same_eq same_refl counted (λ s h. stands_read h) (rw p.listed at e) q

    -- one that changes none is the first after them
    pub stops : not changed ≡ true → count ≡ rounds (circuit_of p)
    stops q = run_stopped run (lawful p.table.checked) same_eq same_refl counted (λ s h. stands_read h) (rw p.listed at e) q

    -- and the store is the certificate then
    pub certificate_holds : not changed ≡ true → Holds L p.table.records (certificate (circuit_of p)) entry cells
    unfolding certificate stopped rounds
    certificate_holds q = run_end run (stops q)

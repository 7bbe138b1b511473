-- A register that is not of kind 4 decides; else each register of the table is among those looked at.
-- Assumes nothing.
use Rattle.std.proofs.Common.{◌≡◌, ℕ, ◌+◌, ◌*◌, ◌≤◌, length, ◌∙◌, subst, arith, rules, tests}
use Rattle.std.proofs.lemmas.List.{get_or_default}
use Rattle.std.proofs.lemmas.Iterator.{YieldsList-from_slice, cases_from_any}
use Rattle.std.proofs.lemmas.Iterator.Adapters.{serves_from_places}
use Rattle.std.specs.Bool.{⊤}
use Rattle.circuit.specs.Reading.{fields_at}
use Rattle.circuit.proofs.Tables.{circuit_length}
use Rattle.engine.specs.Plans.{circuit_of}
use Rattle.schedule.proofs.Registers.{register_list_all}
use Rattle.engine.proofs.Standing.{plan_register_below}
use Rattle.machine.proofs.tick.has_enable.Goals as goal

pub any-requires-clause-callable : goal.any-requires-clause-callable
any-requires-clause-callable c =
    let p = c.args.plan.now in
    serves_from_places (YieldsList-from_slice p.registers.now c.iter.ensures.rest)
    (λ v q k. search (rules, tests))
    (λ v k h e.
    let fits : v.now * 16 + 16 ≤ length p.table.bytes.now =
    omega (arith, plan_register_below p h (e ∙ get_or_default p.registers.now k v.now 0 h), p.table.checked.long) in
    search rules)

pub returns : goal.returns
returns c =
    let p = c.args.plan.now in
    let found =
    cases_from_any _ _ _ (λ v. ⊤) (λ v. (fields_at p.table.bytes.now (v * 16)).kind ≡ 4) c.any.ensures.ran
    (YieldsList-from_slice p.registers.now c.iter.ensures.rest) (λ v q k. tt) (λ v q k. search (rules, tests)) in
    λ e v h is.
    let (k, below, at) =
    register_list_all (circuit_of p) v (omega (arith, circuit_length p.table.bytes.now p.table.records)) is in
    subst (λ (u : ℕ). (fields_at p.table.bytes.now (u * 16)).kind ≡ 4) at
    ((rw (e, p.listed) at found) k 0 (omega arith) below)

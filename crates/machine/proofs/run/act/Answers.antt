-- A poke that passed names a variable of the table.
-- Assumes nothing.
use Rattle.std.proofs.Common.{◌≡◌, subst, arith}
use Rattle.net.specs.declared.Stimulus.{Stimulus}
use Rattle.circuit.specs.Refusal.{passed}
use Rattle.std.specs.Prelude.{Ok}
use Rattle.engine.specs.Plans.{circuit_of}
use Rattle.circuit.specs.Stimuli.{check_stimulus}
use Rattle.circuit.proofs.Tables.{circuit_length}
use Rattle.circuit.proofs.Stimuli.{poke_passed}
use Rattle.machine.proofs.run.act.Goals as goal

pub poke-requires-clause-below : goal.poke-requires-clause-below
poke-requires-clause-below c =
    let x = c.args in
    let C = circuit_of x.plan.now in
    let poked =
    poke_passed C _ _ 0
    (subst (λ (y : Stimulus). check_stimulus C (Ok y) 0 ≡ passed) c.in-Poke.is c.requires.stimulus_value) in
    omega (arith, poked.below, circuit_length x.plan.now.table.bytes.now x.plan.now.table.records, c.from.ensures)

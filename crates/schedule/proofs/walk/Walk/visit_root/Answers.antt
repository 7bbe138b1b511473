-- The next root is pushed; where it is passed over nothing is left to show.
-- Assumes nothing.
use Rattle.std.proofs.Common.{◌≡◌, ◌<◌, arith}
use Rattle.std.proofs.lemmas.Bool.Decides.{nat_tests}
use Rattle.circuit.specs.Tables.{circuit_of}
use Rattle.schedule.specs.Walk.{last, state_of}
use Rattle.schedule.proofs.Steps as steps
use Rattle.schedule.proofs.walk.Walk.visit_root.Goals.{then-last_state-eq0, else-last_state-eq0}
use Rattle.schedule.proofs.walk.Walk.visit_root.Goals as goal

pub returns-else-s-n-ne0 : goal.returns-else-s-n-ne0
returns-else-s-n-ne0 c =
    let a = c.args in
    let root = a.self.now.root in
    let unvisited : (0 < last (circuit_of a.table) root) × (state_of a.table.records a.s.now root ≡ 0) =
    elim c.if-last_state-eq0.branch [
      | then-last_state-eq0 w ↦ absurd (grind (arith, nat_tests))
      | else-last_state-eq0 w ↦ (omega (arith, c.last_state.ensures), grind (arith, nat_tests))
    ] in
    steps.pushed c.requires.walking root _ _ c.requires.top_value.1 unvisited.0 unvisited.1
    (λ h. absurd (omega arith))
    c.push.ensures.fields_after c.push.ensures.s_after

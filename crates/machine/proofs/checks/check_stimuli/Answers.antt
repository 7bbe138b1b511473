-- Grounds 12 and 13, then each stimulus.
-- Assumes nothing.
use Rattle.std.proofs.Common.{lt-ltb, le-ltb, eq-eqb, ne_eqb}
use Rattle.circuit.specs.Stimuli.{check_stimuli}
use Rattle.machine.proofs.checks.check_stimuli.Goals as goal

pub returns-then-s-ne0 : goal.returns-then-s-ne0
unfolding check_stimuli
returns-then-s-ne0 c = rw c.at.ensures (simp (ne_eqb _ _ c.if-s-ne0.true))

pub returns-then-s-gt4096 : goal.returns-then-s-gt4096
unfolding check_stimuli
returns-then-s-gt4096 c = rw c.at-then-s-gt4096.ensures (simp (eq-eqb _ _ c.if-s-ne0.false, lt-ltb _ _ c.if-s-gt4096.true))

pub returns : goal.returns
unfolding check_stimuli
returns c = simp (eq-eqb _ _ c.if-s-ne0.false, le-ltb _ _ c.if-s-gt4096.false) c.check_each.ensures

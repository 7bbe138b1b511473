-- The loop's invariant: the first j registers are staged.
-- Assumes nothing.
use Rattle.std.proofs.Common.{length}
use Rattle.engine.specs.Plans.{circuit_of}
use Rattle.engine.proofs.Passes.{Begun}
use Rattle.machine.specs.State.{state}
use Rattle.machine.specs.Staging.{halves, staged}
use Rattle.machine.proofs.tick.stage.Given as goal

abbrev pub invariant-loop-j : goal.invariant-loop-j
invariant-loop-j l =
    Begun halves (length l.plan.registers.now) (staged (circuit_of l.plan) (state l.values)) l.fn.staging l.staging l.j

-- The loop's invariant: the store is the definition's after as many rounds. The measure is the rounds left.
-- Assumes nothing.
use Rattle.std.proofs.Common.{◌-◌, length}
use Rattle.buffer.specs.Kept.{Kept}
use Rattle.fact.specs.Rule.{rule}
use Rattle.fact.specs.Certificate.{initial_store, rounds}
use Rattle.engine.specs.Plans.{circuit_of}
use Rattle.engine.proofs.Rounds.{Running}
use Rattle.certificate.proofs.round.run_rounds.Given as goal

abbrev pub invariant-loop-changed : goal.invariant-loop-changed
invariant-loop-changed g l =
    let S = g.S.Store in
    let C = circuit_of l.plan in
    record {
      kept : Kept (length l.plan.registers.now) l.fn.staging l.staging;
      running : Running S.layout l.plan.table.bytes.now l.plan.table.records (rule C) (initial_store C) (rounds C)
          (S.as_numbers l.fn.cells) (S.as_numbers l.cells) l.count;
    }

abbrev pub decreases-loop-changed : goal.decreases-loop-changed
decreases-loop-changed g l = rounds (circuit_of l.plan) - l.count

-- The loop's invariant: the first j registers are staged, and whether one of them changes.
-- Assumes nothing.
use Rattle.std.proofs.Common.{◌≡◌, not, length}
use Rattle.net.specs.Tests.{all_below}
use Rattle.buffer.specs.Store.{numbers}
use Rattle.fact.specs.Fact.{same}
use Rattle.fact.specs.Rule.{rule}
use Rattle.engine.specs.Plans.{circuit_of}
use Rattle.engine.specs.Registers.{stays_at}
use Rattle.engine.specs.Rules.{read_off}
use Rattle.engine.proofs.Passes.{Begun}
use Rattle.certificate.specs.Staging.{staged}
use Rattle.certificate.proofs.round.stage.Given as goal

abbrev pub invariant-loop-j : goal.invariant-loop-j
invariant-loop-j g l =
    let C = circuit_of l.plan in
    let s = read_off g.S.Store.layout (g.S.Store.as_numbers l.cells) in
    record {
      staged : Begun numbers (length l.plan.registers.now) (staged C s) l.fn.staging l.staging l.j;
      changes : l.changed ≡ not (all_below (stays_at C (rule C) same s) l.j);
    }

-- The walk keeps its invariant, to its end.
-- Assumes nothing.
use Rattle.std.proofs.Common.{arith}
use Rattle.circuit.specs.Tables.{circuit_of}
use Rattle.schedule.specs.Walk.{slot_of, state_of}
use Rattle.buffer.proofs.Filled.{kept_none}
use Rattle.schedule.proofs.Invariant.{start}
use Rattle.schedule.proofs.Steps as steps
use Rattle.schedule.proofs.walk.visit_all.Goals as goal

pub loop-w-init : goal.loop-w-init
loop-w-init c =
    let a = c.args in
    record {
      walking = record {
        lent = c.requires.states_in_bounds;
        invariant =
            start (circuit_of a.table) a.table.records (slot_of a.s.now)
            (state_of a.table.records a.s.now) c.requires.unvisited;
      };
      kept = kept_none _ _;
    }

pub returns-else-w-n-2-clause-ok : goal.returns-else-w-n-2-clause-ok
returns-else-w-n-2-clause-ok c =
    let walking = c.loop-w.invariant.walking in
    let high = walking.invariant.root_most in
    let high' = walking.invariant.top_most in
    steps.all_finished walking (omega arith) (omega arith)

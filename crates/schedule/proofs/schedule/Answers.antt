-- The states are cleared, the wires visited; then the order is completed, or the loop is shown. Clearing and the walk
-- leave what lies past the states.
-- Assumes nothing.
use Rattle.std.proofs.Common.{refl, arith}
use Rattle.buffer.proofs.Filled.{kept_trans, filled_kept}
use Rattle.schedule.proofs.Outcomes.{order_stands, loop_stands}
use Rattle.schedule.proofs.schedule.Goals as goal

pub returns-in-Ok : goal.returns-in-Ok
returns-in-Ok c =
    let kept = kept_trans (filled_kept _ (omega arith) c.clear.ensures) c.visit_all.ensures.kept in
    order_stands c.args.part c.requires.0 c.requires.1 kept c.in-Ok.ensures.ok
    c.add_registers-registers.ensures.value c.add_registers-registers.ensures.filled
    c.clear-in-Ok.ensures

pub returns-in-Err : goal.returns-in-Err
returns-in-Err c =
    let kept = kept_trans (filled_kept _ (omega arith) c.clear.ensures) c.visit_all.ensures.kept in
    rw c.at.ensures (
      refl,
      loop_stands c.args.part c.requires.0 c.requires.1 kept c.in-Err.ensures.err
          c.show_loop-size.ensures c.clear-in-Err.ensures,
    )

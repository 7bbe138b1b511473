-- A list that is refused changes nothing; else the machine runs it from power-on.
-- Assumes nothing.
use Rattle.std.proofs.Common.{sym, ◌∙◌, arith}
use Rattle.circuit.specs.Machine.{machine}
use Rattle.buffer.proofs.Filled.{kept_behind, kept_wider}
use Rattle.buffer.proofs.Store.{holds_moves}
use Rattle.machine.proofs.bench_list.Goals as goal

pub returns-clause-kept : goal.returns-clause-kept
returns-clause-kept c =
    let x = c.args in
    let order = c.split_at_mut-ordered.ensures in
    let ready = c.requires in
    kept_wider (omega (arith, c.new-plan.ensures.registers, ready.fits))
    (kept_behind x.table.now.records x.scratch.now _ _ (omega (arith, ready.scratch_long)) order.front_len
    (rw order.back at c.run.ensures.kept))

pub returns-clause-list_answered : goal.returns-clause-list_answered
unfolding machine
returns-clause-list_answered c =
    let plan = c.new-plan.ensures.table in (
      sym c.check_stimuli.ensures ∙ c.in_ok-check_stimuli.was,
      holds_moves (rw plan at c.power_on.ensures) (rw plan at c.run.ensures.moves),
    )

-- Each turn writes a variable's number, which is the number of those before it that remain.
-- Assumes nothing.
use Rattle.std.proofs.Common.{arith}
use Rattle.trim.proofs.Numbering.{none_numbered, count_small, numbered_passed, numbered_failed}
use Rattle.trim.proofs.write.number_survivors.Goals as goal
use Rattle.trim.proofs.write.number_survivors.Goals.{then-remains_at, else-remains_at}

pub loop-v-init : goal.loop-v-init
loop-v-init c = none_numbered _ _ c.args.s.now

pub overflow_cast-s : goal.overflow_cast-s
overflow_cast-s c =
    omega (arith, c.args.table.now.checked.small, count_small _ _ c.args.s.now c.loop-v.invariant)

pub overflow_add-count : goal.overflow_add-count
overflow_add-count c =
    omega (arith, c.args.table.now.checked.small, count_small _ _ c.args.s.now c.loop-v.invariant)

pub loop-v-preserved : goal.loop-v-preserved
loop-v-preserved c =
    let next = c.remains_at.ensures in
    elim c.if-remains_at.branch [
      | then-remains_at w ↦
          rw w.count-is
          (numbered_passed _ _ c.args.s.now c.loop-v.invariant c.requires
          c.loop-v-test.true next w.if-remains_at.true)
      | else-remains_at w ↦
          rw w.count-is
          (numbered_failed _ _ c.args.s.now c.loop-v.invariant c.requires
          c.loop-v-test.true next w.if-remains_at.false)
    ]

-- The variable of the place that is come to is put where it belongs.
-- Assumes nothing.
use Rattle.std.proofs.Common.{◌≡◌, ◌+◌, ◌-◌, refl, arith}
use Rattle.path.proofs.Writing.{steps_left, written_more, written_all}
use Rattle.path.proofs.row.write_row.Goals as goal

pub loop-k-preserved : goal.loop-k-preserved
loop-k-preserved c =
    let k = c.loop-k.k in
    let written = c.loop-k.invariant in
    let some = c.loop-k-test.true in
    let falls = c.requires.room_in_bounds.3 c.loop-k.i (steps_left written some) written.low in
    let place : k - 1 + 1 ≡ k = omega arith in
    rw place (written_more k written some falls c.requires.depth.1 refl c.from-i.ensures)

pub returns : goal.returns
returns c = written_all c.loop-k.invariant (omega arith) c.requires.depth.1 refl

-- The parent is an earlier place, one step less deep.
-- Assumes nothing.
use Rattle.std.proofs.Common.{◌<◌, arith}
use Rattle.path.specs.Search.{parent}
use Rattle.path.proofs.Writing.{climbed_more, climbed_all}
use Rattle.path.proofs.row.depth.Goals as goal

pub loop-i-preserved : goal.loop-i-preserved
loop-i-preserved c =
    let i = c.loop-i.i in
    let climbed = c.loop-i.invariant in
    let falls : parent c.args.n c.args.s.now i < i =
    c.requires.3 i c.loop-i-test.true (omega (arith, climbed.most)) in
    climbed_more climbed c.loop-i-test.true falls c.from-i.ensures

pub returns : goal.returns
returns c = climbed_all c.loop-i.invariant (omega arith)

-- Three promises guarantee demand 3.
-- Assumes nothing.
use Rattle.guarantee.proofs.TwoRuns.{calls_guaranteed}
use Rattle.guarantee.proofs.two_runs.Goals as goal

pub returns : goal.returns
returns c =
    let x = c.args in
    let certified = c.certify-certified in
    let first = c.bench-first in
    let second = c.bench-second in
    calls_guaranteed x.table.now x.certificate.now x.scratch.now certified.new.certificate certified.new.scratch
    x.values1.now x.scratch1.now first.new.values first.new.scratch x.stimuli1.now x.values2.now x.scratch2.now
    second.new.values second.new.scratch x.stimuli2.now
    (record { certified = certified.result; first = first.result; second = second.result }) certified.ensures
    first.ensures second.ensures

-- An order lets the list be read and run; where a loop is shown nothing is left to prove.
-- Assumes nothing.
use Rattle.std.proofs.Common.{sym, ◌∙◌}
use Rattle.machine.proofs.Promise.{ready, answered}
use Rattle.machine.proofs.bench.Goals as goal

pub bench_ordered-requires : goal.bench_ordered-requires
bench_ordered-requires c =
    let x = c.args in
    let (bytes, records) = c.new-checked.ensures in
    rw (bytes, records)
    (ready x.stimuli.now x.table.now x.values.now x.scratch.now (sym c.check_call.ensures ∙ c.in_ok-check_call.was)
    (rw (bytes, records) at c.in_ok-order.ensures))

pub returns : goal.returns
returns c =
    let x = c.args in
    let (bytes, records) = c.new-checked.ensures in
    let d = rw (bytes, records) at c.bench_ordered.ensures in
    answered x.stimuli.now x.table.now x.values.now x.scratch.now (sym c.check_call.ensures ∙ c.in_ok-check_call.was)
    (rw (c.new-checked.ensures.0, c.new-checked.ensures.1) at c.in_ok-order.ensures) _ _ c.bench_ordered.result
    d.list_answered d.scratch_after

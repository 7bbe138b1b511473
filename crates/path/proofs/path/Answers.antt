-- A loop is shown; of an order comes the path, or ground 23.
-- Assumes nothing.
use Rattle.std.proofs.Common.{sym, ◌∙◌}
use Rattle.analysis.proofs.Behind.{ordered_words}
use Rattle.path.proofs.Promise.{none_found, traced}
use Rattle.path.proofs.path.Goals as goal

pub path_ordered-requires-clause-ready : goal.path_ordered-requires-clause-ready
path_ordered-requires-clause-ready c = ordered_words c.new-table.result.checked c.in_ok-order.ensures

pub path_ordered-requires-clause-none_found : goal.path_ordered-requires-clause-none_found
path_ordered-requires-clause-none_found c =
    let x = c.args in
    let t = c.new-table.ensures in
    rw t.1
    (none_found x.variable x.bytes.now x.row.now x.scratch.now (sym c.check_call.ensures ∙ c.in_ok-check_call.was)
    (rw (t.0, t.1) at c.in_ok-order.ensures))

pub returns : goal.returns
returns c =
    let x = c.args in
    let t = c.new-table.ensures in
    let d = c.path_ordered in
    traced x.variable x.bytes.now x.row.now x.scratch.now (sym c.check_call.ensures ∙ c.in_ok-check_call.was)
    (rw (t.0, t.1) at c.in_ok-order.ensures) d.new.row d.result (rw (t.0, t.1) at d.ensures.traces_marked)
    (rw t.1 at d.ensures.scratch_after)

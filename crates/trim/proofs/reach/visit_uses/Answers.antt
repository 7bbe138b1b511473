-- Each turn reads a use of the record, which is a variable, and visits it.
-- Assumes nothing.
use Rattle.std.proofs.Common.{◌≡◌, ◌∙◌, ◌<◌, length, get_or, arith}
use Rattle.circuit.specs.Record.{uses}
use Rattle.circuit.specs.Circuit.{record_of}
use Rattle.circuit.specs.Tables.{circuit_of}
use Rattle.fact.specs.Fact.{fact_at}
use Rattle.trim.specs.Trimmed.{replaced}
use Rattle.trim.proofs.Replaced.{called_use, called_inside}
use Rattle.trim.proofs.Visiting.{use_below, use_room, one_use_visited, all_uses_visited}
use Rattle.trim.proofs.reach.visit_uses.Goals as goal

pub use_at-requires-clause-k_in_bounds : goal.use_at-requires-clause-k_in_bounds
use_at-requires-clause-k_in_bounds c =
    (called_use _ c.args.certificate.now _ c.args.v c.requires.v_in_bounds.1 c.loop-k.k
    (omega (arith, c.loop-k-test.true, c.called_uses-count.ensures))).0

pub visit-stacked-requires-clause-n_in_bounds : goal.visit-stacked-requires-clause-n_in_bounds
visit-stacked-requires-clause-n_in_bounds c =
    let a = c.args in
    let h = c.requires.v_in_bounds in
    let l = c.loop-k in
    let own = uses (record_of (replaced (circuit_of a.table.now) (fact_at a.certificate.now)) a.v) in
    let more : l.k < length own = omega (arith, c.loop-k-test.true, c.called_uses-count.ensures) in
    let is : c.from.result ≡ get_or own l.k 0 =
    c.from.ensures ∙ c.use_at.ensures
    ∙ (called_use _ a.certificate.now _ a.v h.1 l.k more).1 in (
      l.invariant.visiting.lent,
      c.args.table.now.checked.small,
      use_below (called_inside a.certificate.now c.args.table.now.checked) h.1 h.2 l.invariant more is,
    )

pub visit-stacked-requires-clause-waiting_lt_n : goal.visit-stacked-requires-clause-waiting_lt_n
visit-stacked-requires-clause-waiting_lt_n c =
    let a = c.args in
    let h = c.requires.v_in_bounds in
    let l = c.loop-k in
    let own = uses (record_of (replaced (circuit_of a.table.now) (fact_at a.certificate.now)) a.v) in
    let more : l.k < length own = omega (arith, c.loop-k-test.true, c.called_uses-count.ensures) in
    let is : c.from.result ≡ get_or own l.k 0 =
    c.from.ensures ∙ c.use_at.ensures
    ∙ (called_use _ a.certificate.now _ a.v h.1 l.k more).1 in
    use_room (called_inside a.certificate.now c.args.table.now.checked) h.1 h.2 l.invariant more is

pub loop-k-preserved : goal.loop-k-preserved
loop-k-preserved c =
    let a = c.args in
    let h = c.requires.v_in_bounds in
    let l = c.loop-k in
    let own = uses (record_of (replaced (circuit_of a.table.now) (fact_at a.certificate.now)) a.v) in
    let more : l.k < length own = omega (arith, c.loop-k-test.true, c.called_uses-count.ensures) in
    let is : c.from.result ≡ get_or own l.k 0 =
    c.from.ensures ∙ c.use_at.ensures
    ∙ (called_use _ a.certificate.now _ a.v h.1 l.k more).1 in
    one_use_visited (called_inside a.certificate.now c.args.table.now.checked) h.1 h.2 l.invariant more is
    c.visit-stacked.ensures

pub returns-clause-visiting_after : goal.returns-clause-visiting_after
returns-clause-visiting_after c =
    let h = c.requires.v_in_bounds in
    all_uses_visited (called_inside c.args.certificate.now c.args.table.now.checked) h.1 h.2 c.loop-k.invariant
    (omega (arith, c.loop-k-test.false, c.called_uses-count.ensures))

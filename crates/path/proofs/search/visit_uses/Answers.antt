-- The uses in ascending order, each visited once those before were.
-- Assumes nothing.
use Rattle.std.proofs.Common.{refl, arith}
use Rattle.path.proofs.Queues.{queue_few}
use Rattle.path.proofs.Visits.{use_below, use_room, one_use_visited, uses_visited}
use Rattle.path.proofs.search.visit_uses.Goals as goal

pub visit-queued-requires-clause-room_in_bounds : goal.visit-queued-requires-clause-room_in_bounds
visit-queued-requires-clause-room_in_bounds c =
    let at = c.requires.v_at_head in
    let visits = c.loop-u.invariant in
    let stand = visits.searching.facts_stand in (
      stand.lent,
      c.args.table.now.checked.small,
      omega (arith, at.0, queue_few c.requires.searching.queue),
      use_below c.requires.searching at.0 at.1 c.uses_under-u-items.ensures visits c.loop-u-test.true refl,
    )

pub visit-queued-requires-clause-tail_lt_n : goal.visit-queued-requires-clause-tail_lt_n
visit-queued-requires-clause-tail_lt_n c =
    let at = c.requires.v_at_head in
    use_room c.requires.searching at.0 at.1 c.uses_under-u-items.ensures c.loop-u.invariant c.loop-u-test.true refl

pub loop-u-preserved : goal.loop-u-preserved
loop-u-preserved c =
    let at = c.requires.v_at_head in
    one_use_visited c.requires.searching at.0 at.1 c.uses_under-u-items.ensures c.loop-u.invariant
    c.loop-u-test.true refl c.visit-queued.ensures

pub returns-clause-searching_after : goal.returns-clause-searching_after
returns-clause-searching_after c =
    let at = c.requires.v_at_head in
    uses_visited c.requires.searching at.0 at.1 c.uses_under-u-items.ensures c.loop-u.invariant
    c.loop-u-test.false at.2

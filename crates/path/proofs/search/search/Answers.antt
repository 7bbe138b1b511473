-- The head is always one of the queue; a secret input at it ends the search, and any other is done.
-- Assumes nothing.
use Rattle.std.proofs.Common.{arith}
use Rattle.path.proofs.Seeking.{seeking_begun, seeking_found, search_left, head_below, head_room, head_uses, head_secret, head_open}
use Rattle.path.proofs.search.search.Goals as goal

pub loop-u-init : goal.loop-u-init
loop-u-init c =
    seeking_begun c.requires.facts_stand c.requires.v_marked.0 c.requires.v_marked.1 c.requires.none_found

pub overflow_add-n : goal.overflow_add-n
overflow_add-n c = omega (arith, head_room c.loop-u.invariant.searching)

pub offset_bounds-s-n-in-loop-u : goal.offset_bounds-s-n-in-loop-u
offset_bounds-s-n-in-loop-u c = omega (arith, head_room c.loop-u.invariant.searching)

pub bounds-s-n-in-loop-u : goal.bounds-s-n-in-loop-u
bounds-s-n-in-loop-u c =
    let searching = c.loop-u.invariant.searching in
    omega (arith, head_room searching, searching.facts_stand.lent)

pub is_secret-requires : goal.is_secret-requires
is_secret-requires c =
    let searching = c.loop-u.invariant.searching in
    omega (arith, head_below searching, c.from-u.ensures, c.args.table.now.checked.long)

pub visit_uses-tail-requires-clause-v_at_head : goal.visit_uses-tail-requires-clause-v_at_head
visit_uses-tail-requires-clause-v_at_head c =
    let searching = c.loop-u.invariant.searching in
    let here = c.from-u.ensures in
    (search_left searching, here, head_open searching here c.is_secret.ensures c.if-is_secret.false)

pub visit_uses-tail-requires-clause-uses_some : goal.visit_uses-tail-requires-clause-uses_some
visit_uses-tail-requires-clause-uses_some c =
    let searching = c.loop-u.invariant.searching in
    let here = c.from-u.ensures in
    head_uses searching here (head_open searching here c.is_secret.ensures c.if-is_secret.false)

pub overflow_add-head : goal.overflow_add-head
overflow_add-head c = omega (arith, head_room c.loop-u.invariant.searching)

pub loop-u-smaller : goal.loop-u-smaller
loop-u-smaller c = omega (arith, head_room c.loop-u.invariant.searching)

pub returns-clause-found : goal.returns-clause-found
returns-clause-found c =
    let seek = c.loop-u.invariant in
    seeking_found seek (head_secret seek.searching c.from-u.ensures c.is_secret.ensures c.if-is_secret.true)

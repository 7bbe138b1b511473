-- What the search finds, how deep it is, and the way to it.
-- Assumes nothing.
use Rattle.std.proofs.Common.{arith}
use Rattle.path.proofs.Seeking.{found_room, found_falls}
use Rattle.path.proofs.Promise.{path_written}
use Rattle.path.proofs.write_path.Goals as goal

pub depth-steps-requires : goal.depth-steps-requires
depth-steps-requires c =
    let f = c.search-end.ensures.found in
    let stand = f.searching.facts_stand in
    (stand.lent, c.args.table.now.checked.small, found_room f, found_falls f)

pub write_row-requires-clause-room_in_bounds : goal.write_row-requires-clause-room_in_bounds
write_row-requires-clause-room_in_bounds c =
    let f = c.search-end.ensures.found in
    let stand = f.searching.facts_stand in
    (stand.lent, c.args.table.now.checked.small, found_room f, found_falls f)

pub write_row-requires-clause-depth : goal.write_row-requires-clause-depth
write_row-requires-clause-depth c =
    let f = c.search-end.ensures.found in
    (c.depth-steps.ensures.0, omega (arith, found_room f))

pub overflow_add-result : goal.overflow_add-result
overflow_add-result c =
    let f = c.search-end.ensures.found in
    omega (arith, c.depth-steps.ensures.1, found_room f, c.args.table.now.checked.small)

pub returns-clause-writes_path : goal.returns-clause-writes_path
returns-clause-writes_path c =
    let f = c.search-end.ensures.found in
    path_written f c.depth-steps.ensures.0 (omega (arith, found_room f)) c.write_row.ensures

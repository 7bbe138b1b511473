-- The top is read, then its next use: it is known to be a record before it is looked at.
-- Assumes nothing.
use Rattle.std.proofs.Common.{◌<◌, sym, ◌∙◌, arith}
use Rattle.schedule.proofs.Steps as steps
use Rattle.schedule.proofs.walk.Walk.next_use.Goals.{After-used_at-u}
use Rattle.schedule.proofs.walk.Walk.next_use.Goals as goal

-- the top as it is read
read : (c : After-used_at-u) → steps.TopRead c.args.table c.args.s.now c.args.self.now c.from-v.result c.from-state.result c.last_state.result
read c =
    steps.top_read c.requires.walking c.requires.top_in_bounds c.from-v.ensures c.from-state.ensures c.last_state.ensures

below : (c : After-used_at-u) → c.used_at-u.result < c.args.table.records
below c = steps.use_below (read c) c.if-state-last_state.false c.used_at-u.ensures

pub overflow_add-n-2 : goal.overflow_add-n-2
overflow_add-n-2 c = omega (arith, below (goal.at.overflow_add-n-2 c).After-used_at-u)

pub offset_bounds-s-n-2 : goal.offset_bounds-s-n-2
offset_bounds-s-n-2 c = omega (arith, below (goal.at.offset_bounds-s-n-2 c).After-used_at-u)

pub bounds-s-n-2 : goal.bounds-s-n-2
bounds-s-n-2 c = omega (arith, below (goal.at.bounds-s-n-2 c).After-used_at-u)

pub last_state-requires-2 : goal.last_state-requires-2
last_state-requires-2 c = below (goal.at.last_state-requires-2 c).After-used_at-u

pub returns-then-last_state-other : goal.returns-then-last_state-other
returns-then-last_state-other c =
    let w = c.requires.walking in
    let top = read (goal.at.returns-then-last_state-other c).After-used_at-u in
    let more = c.if-state-last_state.false in
    steps.use_done top more c.used_at-u.ensures
    (steps.use_full top more c.used_at-u.ensures w
    (omega (arith, c.if-last_state-other.true, c.last_state-2.ensures, c.from-other.ensures)))

pub returns-then-other-eq0 : goal.returns-then-other-eq0
returns-then-other-eq0 c =
    steps.use_unvisited (read (goal.at.returns-then-other-eq0 c).After-used_at-u)
    c.if-state-last_state.false c.used_at-u.ensures
    (omega (arith, c.if-last_state-other.false, c.last_state-2.ensures))
    (sym c.from-other.ensures ∙ c.if-other-eq0.true)

pub returns : goal.returns
returns c =
    let other = c.from-other.ensures in
    steps.use_stacked (read (goal.at.returns c).After-used_at-u)
    c.if-state-last_state.false c.used_at-u.ensures
    (λ z. c.if-other-eq0.false (other ∙ z))
    (omega (arith, c.if-last_state-other.false, c.last_state-2.ensures, other))

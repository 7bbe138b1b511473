-- The facts, ground 23, the path, and the scratch cleared.
-- Assumes nothing.
use Rattle.std.proofs.Common.{◌*◌, refl, arith}
use Rattle.buffer.proofs.Filled.{kept_trans, kept_cleared}
use Rattle.buffer.proofs.Filled.{kept_wider, outside_kept}
use Rattle.path.specs.Promise.{room}
use Rattle.path.proofs.Promise.{facts_stood, unmarked_refused}
use Rattle.path.proofs.path_ordered.Goals as goal

pub returns-then-not-is_marked-clause-traces_marked : goal.returns-then-not-is_marked-clause-traces_marked
returns-then-not-is_marked-clause-traces_marked c =
    let stand = facts_stood {t = c.args.table.now} c.requires.ready c.analyse.ensures.stands c.analyse.ensures.kept in
    rw c.at.ensures (unmarked_refused stand c.args.v c.is_marked.ensures c.if-not-is_marked.true, refl)

pub returns-then-not-is_marked-clause-scratch_after : goal.returns-then-not-is_marked-clause-scratch_after
returns-then-not-is_marked-clause-scratch_after c =
    let a = c.args in
    kept_cleared (a.table.now.records * 5) (a.table.now.records * room) a.scratch.now _ _ c.analyse.ensures.kept (omega arith)
    c.requires.ready.scratch_long c.clear.ensures

pub write_path-size-requires-clause-facts_stand : goal.write_path-size-requires-clause-facts_stand
write_path-size-requires-clause-facts_stand c =
    facts_stood {t = c.args.table.now} c.requires.ready c.analyse.ensures.stands c.analyse.ensures.kept

pub returns-clause-scratch_after : goal.returns-clause-scratch_after
returns-clause-scratch_after c =
    let a = c.args in
    kept_cleared (a.table.now.records * 6) (a.table.now.records * room) a.scratch.now _ _
    (kept_trans (kept_wider (omega arith) c.analyse.ensures.kept)
    (outside_kept c.write_path-size.ensures.kept_outside)) (omega arith) c.requires.ready.scratch_long
    c.clear-2.ensures

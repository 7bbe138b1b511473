-- The loop's invariant: the variables behind k stand in the row.
-- Assumes nothing.
use Rattle.path.specs.Search.{queued, parent}
use Rattle.path.proofs.Writing.{Written}
use Rattle.path.proofs.row.write_row.Given as goal

abbrev pub invariant-loop-k : goal.invariant-loop-k
invariant-loop-k l = Written (queued l.n l.s) (parent l.n l.s) l.at l.steps l.fn.row l.row l.i l.k

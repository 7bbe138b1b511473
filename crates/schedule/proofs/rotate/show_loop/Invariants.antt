-- The loop's invariant: the numbers before i of the stack's loop are copied to the front.
-- Assumes nothing.
use Rattle.std.proofs.Common.{◌+◌, get_or}
use Rattle.buffer.specs.Kept.{Filled}
use Rattle.schedule.proofs.rotate.show_loop.Given as goal

abbrev pub invariant-loop-i : goal.invariant-loop-i
invariant-loop-i l = record { copied : Filled 0 l.i (λ j. get_or l.fn.s (l.top + j) 0) l.fn.s l.s }

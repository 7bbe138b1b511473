-- Two of the numbers compared at a time.
-- Assumes nothing.
use Rattle.path.proofs.Sorted.{sorted_three}
use Rattle.path.proofs.uses.sorted.Goals as goal

pub returns : goal.returns
returns c =
    rw (
      c.max.ensures,
      c.min.ensures,
      c.max-b.ensures,
      c.min-a.ensures,
      c.max-c.ensures,
      c.min-b.ensures,
    )
    (sorted_three c.args.a c.args.b c.args.c)

-- A checked table's width is at most 32, and what a number is held against is the width's power.
-- Assumes nothing.
use Rattle.std.proofs.Common.{arith}
use Rattle.circuit.proofs.Tables.{records_valid}
use Rattle.trim.proofs.checks.bad_fact.Goals as goal

pub width-requires : goal.width-requires
width-requires c =
    omega (
      arith,
      c.width_at.ensures,
      (records_valid _ _ c.args.table.now.checked.valid c.args.v c.requires.1).width_most,
    )

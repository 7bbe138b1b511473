-- The seven bytes behind the first are compared in a row.
-- Assumes nothing.
use Rattle.std.proofs.Common.{refl, rules}
use Rattle.analysis.proofs.Own.{row_told}
use Rattle.analysis.proofs.compare.same_bytes.Goals as goal

pub returns-then-from-byte : goal.returns-then-from-byte
returns-then-from-byte c =
    let x = c.args in
    row_told x.cells.now x.at x.byte _ (search rules) refl c.requires c.eq.result (search rules)

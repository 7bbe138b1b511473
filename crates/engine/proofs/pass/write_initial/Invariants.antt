-- The loop's invariant: the first values stand in the buffer.
-- Assumes nothing.
use Rattle.circuit.specs.Circuit.{record_of}
use Rattle.circuit.specs.Tables.{circuit_of}
use Rattle.engine.proofs.Passes.{Begun}
use Rattle.engine.proofs.pass.write_initial.Given as goal

abbrev pub invariant-loop-v : goal.invariant-loop-v
invariant-loop-v g l =
    let S = g.S.Store in
    Begun S.layout l.table.records (λ v. g.R.Rule.initial (record_of (circuit_of l.table) v)) (S.as_numbers l.fn.cells)
    (S.as_numbers l.cells) l.v

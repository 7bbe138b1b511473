-- The store that is read off the values is the state.
-- Assumes nothing.
use Rattle.std.proofs.Common.{ℕ, sym, ap, ◌∙◌}
use Rattle.circuit.specs.Machine.{values}
use Rattle.circuit.specs.Tables.{circuit_of}
use Rattle.machine.proofs.Staging.{read_state}
use Rattle.machine.proofs.rule.EvaluationRuleNumbers.wire.Goals as goal

pub returns : goal.returns
returns c =
    let x = c.args in
    c.wire_value.ensures
    ∙ ap (λ (s : ℕ → ℕ). values (circuit_of x.table.now) s x.v) (sym (read_state x.cells.now))

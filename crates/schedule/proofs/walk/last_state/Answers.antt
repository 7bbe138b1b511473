-- The state in which all uses of a wire are done, from the bytes of its record.
-- Assumes nothing.
use Rattle.std.proofs.Common.{sym, ◌∙◌}
use Rattle.circuit.proofs.Tables.{records_valid}
use Rattle.schedule.proofs.Uses.{last_decode}
use Rattle.schedule.proofs.walk.last_state.Goals as goal

pub wire_uses-requires-clause-v_bound : goal.wire_uses-requires-clause-v_bound
wire_uses-requires-clause-v_bound c =
    (records_valid _ _ c.args.table.checked.valid c.args.v c.requires).kind

pub returns : goal.returns
returns c =
    c.from.ensures
    ∙ c.wire_uses.ensures
    ∙ sym (last_decode c.args.table.bytes.now c.args.table.records c.args.v c.requires)

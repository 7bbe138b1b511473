-- Ground 15 where there is no such variable or it is no input; else grounds 17 and 16 of the input.
-- Assumes nothing.
use Rattle.std.proofs.Common.{◌∙◌}
use Rattle.circuit.proofs.Operands.{width_here}
use Rattle.machine.proofs.Checking.{poke_past, poke_other, poke_input}
use Rattle.machine.proofs.checks.check_poke.Goals as goal

pub returns-then-table-v : goal.returns-then-table-v
returns-then-table-v c =
    let x = c.args in
    rw c.at.ensures (poke_past x.table.now.bytes.now x.table.now.records x.v x.x x.i c.if-table-v.true)

pub returns-in_default : goal.returns-in_default
returns-in_default c =
    let x = c.args in
    rw c.at-in_default.ensures
    (poke_other x.table.now.bytes.now x.table.now.records x.v x.x x.i c.if-table-v.false c.record_at.result c.record_at.ensures c.in_default.not-Input)

pub new-requires : goal.new-requires
new-requires c =
    let x = c.args in
    width_here x.table.now.bytes.now x.table.now.records x.v c.if-table-v.false c.record_at.result c.record_at.ensures x.table.now.checked.valid _ c.in-Input.is

pub returns : goal.returns
returns c =
    let x = c.args in
    c.check_value.ensures
    ∙ rw c.new.ensures (poke_input x.table.now.bytes.now x.table.now.records x.v x.x x.i c.if-table-v.false c.record_at.result c.record_at.ensures _ _ c.in-Input.is)

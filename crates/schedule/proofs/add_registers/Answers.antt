-- A register that is found is the next of the list.
-- Assumes nothing.
use Rattle.std.proofs.Common.{◌<◌, refl, sym, ap, ◌∙◌, arith}
use Rattle.circuit.specs.Record.{is_register}
use Rattle.circuit.proofs.Tables.{circuit_length, circuit_record}
use Rattle.buffer.proofs.Filled.{filled_none, filled_more}
use Rattle.schedule.proofs.Registers.{written_none, written_register, written_other, written_all}
use Rattle.schedule.proofs.Registers.{written_below, written_here}
use Rattle.schedule.proofs.add_registers.Goals.{then-is_register, else-is_register}
use Rattle.schedule.proofs.add_registers.Goals as goal

pub loop-v-init : goal.loop-v-init
loop-v-init c =
    let t = c.args.table in
    record { written = written_none _ _ (circuit_length t.bytes.now t.records); filled = filled_none _ _ _ }

pub bounds-s-wires : goal.bounds-s-wires
bounds-s-wires c =
    let l = c.loop-v in
    let record_is = circuit_record c.args.table.bytes.now c.args.table.records l.v (omega arith) in
    let found = ap is_register record_is ∙ sym c.is_register.ensures ∙ c.if-is_register.true in
    omega (arith, written_below (omega arith) l.invariant.written found, l.invariant.filled.long)

pub loop-v-preserved : goal.loop-v-preserved
loop-v-preserved c =
    let l = c.loop-v in
    let below : l.v < c.args.table.records = omega arith in
    let written = l.invariant.written in
    let filled = l.invariant.filled in
    let record_is = circuit_record c.args.table.bytes.now c.args.table.records l.v below in
    elim c.if-is_register.branch [
      | then-is_register w ↦
          let found = ap is_register record_is ∙ sym c.is_register.ensures ∙ w.if-is_register.true in
          rw (w.s-is, w.count-is) (record {
            written = written_register below written found;
            filled =
                filled_more _ _ _ _ _ _ _ refl (omega (arith, written_below below written found, filled.long))
                (written_here below written found) filled;
          })
      | else-is_register w ↦
          let other = ap is_register record_is ∙ sym c.is_register.ensures ∙ w.if-is_register.false in
          rw (w.s-is, w.count-is) (record { written = written_other below written other; filled = filled })
    ]

pub returns-clause-value : goal.returns-clause-value
returns-clause-value c =
    written_all c.loop-v.invariant.written (omega arith)

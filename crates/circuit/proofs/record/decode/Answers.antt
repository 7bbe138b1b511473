-- Each kind byte gives its record.
-- Assumes nothing.
use Rattle.std.proofs.Common.{sym, ap, ◌∙◌, arith}
use Rattle.circuit.specs.declared.record.Record.TheVariants.{Input}
use Rattle.circuit.proofs.Decoding.{decode_input, decode_constant, decode_operator, decode_multiplexer, decode_register, decode_enabled}
use Rattle.circuit.proofs.record.decode.Goals as goal

pub returns-in-0 : goal.returns-in-0
returns-in-0 c = ap (Input c.args.f.width) c.input_kind.ensures ∙ sym (decode_input c.args.f c.in-0.is)

pub returns-in-1 : goal.returns-in-1
returns-in-1 c = sym (decode_constant c.args.f c.in-1.is)

pub returns-in-2 : goal.returns-in-2
returns-in-2 c = rw c.operator_of.ensures (sym (decode_operator c.args.f c.in-2.is))

pub returns-in-3 : goal.returns-in-3
returns-in-3 c = sym (decode_multiplexer c.args.f c.in-3.is)

pub returns-in-4 : goal.returns-in-4
returns-in-4 c = sym (decode_register c.args.f c.in-4.is)

pub returns-in-5-to-255 : goal.returns-in-5-to-255
returns-in-5-to-255 c = sym (decode_enabled c.args.f (omega arith))

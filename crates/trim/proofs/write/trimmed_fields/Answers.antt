-- A constant, or the record's own fields with new numbers.
-- Assumes nothing.
use Rattle.std.proofs.Common.{sym, ◌∙◌}
use Rattle.trim.proofs.RenumberedFields.{constant_survives, survivor_below, renumbered_survives}
use Rattle.trim.proofs.write.trimmed_fields.Goals as goal

pub returns-then-becomes_constant : goal.returns-then-becomes_constant
returns-then-becomes_constant c =
    c.constant_fields.ensures
    ∙ constant_survives _ _ c.args.certificate.now c.args.s.now c.args.v c.args.table.now.checked
    c.requires.v_in_bounds.1 c.fields_at-f.ensures c.u32_at.ensures
    (sym c.becomes_constant.ensures ∙ c.if-becomes_constant.true)

pub renumbered-requires-clause-below : goal.renumbered-requires-clause-below
renumbered-requires-clause-below c =
    survivor_below _ _ c.args.certificate.now c.args.s.now c.args.v c.args.table.now.checked
    c.requires.v_in_bounds.1 c.fields_at-f.ensures

pub returns : goal.returns
returns c =
    c.renumbered.ensures
    ∙ renumbered_survives _ _ c.args.certificate.now c.args.s.now c.args.v c.args.table.now.checked
    c.requires.v_in_bounds.1 c.fields_at-f.ensures c.requires.numbered
    (sym c.becomes_constant.ensures ∙ c.if-becomes_constant.false)

-- The rule of the register's kind, on the facts that are loaded.
-- Assumes nothing.
use Rattle.std.proofs.Common.{◌≢◌, sym, ap, ◌∙◌, arith}
use Rattle.circuit.proofs.Operands.{register_here}
use Rattle.fact.proofs.Rules.{register_rule_lem, enabled_rule_lem}
use Rattle.circuit.specs.Tables.{circuit_of}
use Rattle.engine.specs.Rules.{read_off}
use Rattle.engine.proofs.Standing.{placed}
use Rattle.certificate.proofs.evaluate.register_fact.Goals as goal

pub load-requires : goal.load-requires
load-requires g c =
    let x = c.args in
    let p = c.requires in
    let is = register_here x.table.now.bytes.now x.table.now.records x.v p.below x.table.now.checked.valid p.is in
    placed g.S.Store.layout.each x.table.now.records c.a_at.result (omega (arith, is.a_below, c.a_at.ensures)) p.store.lent

pub width-width-requires : goal.width-width-requires
width-width-requires g c =
    let x = c.args in
    let p = c.requires in
    let is = register_here x.table.now.bytes.now x.table.now.records x.v p.below x.table.now.checked.valid p.is in
    omega (arith, is.width_most, c.width_at.ensures)

pub load-requires-in_default : goal.load-requires-in_default
load-requires-in_default g c =
    let x = c.args in
    let p = c.requires in
    let is = register_here x.table.now.bytes.now x.table.now.records x.v p.below x.table.now.checked.valid p.is in
    placed g.S.Store.layout.each x.table.now.records c.a_at-in_default.result (omega (arith, is.a_below, c.a_at-in_default.ensures)) p.store.lent

pub load-requires-in_default-2 : goal.load-requires-in_default-2
load-requires-in_default-2 g c =
    let x = c.args in
    let p = c.requires in
    let four : c.kind_at-kind.result ≢ 4 = omega arith in
    let is = register_here x.table.now.bytes.now x.table.now.records x.v p.below x.table.now.checked.valid p.is in
    placed g.S.Store.layout.each x.table.now.records c.b_at.result (omega (arith, is.b_below (λ e. four (c.kind_at-kind.ensures ∙ e)), c.b_at.ensures)) p.store.lent

pub returns-in-4 : goal.returns-in-4
returns-in-4 g c =
    let x = c.args in
    let read = read_off g.S.Store.layout (g.S.Store.as_numbers x.cells.now) in
    let p = c.requires in
    let is = register_here x.table.now.bytes.now x.table.now.records x.v p.below x.table.now.checked.valid p.is in
    let a = c.load.ensures ∙ ap read c.a_at.ensures in
    c.register_rule.ensures
    ∙ rw (c.width-width.ensures, c.width_at.ensures, c.value_at.ensures, a)
    (register_rule_lem (circuit_of x.table.now) x.v read _ _ _
    (is.plain (sym c.kind_at-kind.ensures ∙ c.in-4.is)))

pub returns-in_default : goal.returns-in_default
returns-in_default g c =
    let x = c.args in
    let read = read_off g.S.Store.layout (g.S.Store.as_numbers x.cells.now) in
    let p = c.requires in
    let four : c.kind_at-kind.result ≢ 4 = omega arith in
    let is = register_here x.table.now.bytes.now x.table.now.records x.v p.below x.table.now.checked.valid p.is in
    let a = c.load-in_default.ensures ∙ ap read c.a_at-in_default.ensures in
    let b = c.load-in_default-2.ensures ∙ ap read c.b_at.ensures in
    c.enabled_rule.ensures
    ∙ rw (c.width-width.ensures, c.width_at.ensures, c.value_at-in_default.ensures, a, b)
    (enabled_rule_lem (circuit_of x.table.now) x.v read _ _ _ _
    (is.enabled (λ e. four (c.kind_at-kind.ensures ∙ e))))

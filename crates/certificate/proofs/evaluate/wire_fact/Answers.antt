-- The rule of the record's kind, on the facts that are loaded.
-- Assumes nothing.
use Rattle.std.proofs.Common.{◌≢◌, sym, ap, ◌∙◌, arith}
use Rattle.circuit.specs.Operator.{operator_of}
use Rattle.circuit.proofs.Operands.{constant_here, operator_here, multiplexer_here}
use Rattle.fact.specs.declared.Fact.TheVariants.{Always}
use Rattle.fact.proofs.Rules.{constant_rule, operator_rule_lem, multiplexer_rule_lem}
use Rattle.circuit.specs.Tables.{circuit_of}
use Rattle.engine.specs.Rules.{read_off}
use Rattle.engine.proofs.Standing.{placed}
use Rattle.certificate.proofs.evaluate.wire_fact.Goals as goal

pub load-requires : goal.load-requires
load-requires g c =
    let x = c.args in
    let p = c.requires in
    let is = operator_here x.table.now.bytes.now x.table.now.records x.v p.below x.table.now.checked.valid (sym c.kind_at-kind.ensures ∙ c.in-2.is) in
    placed g.S.Store.layout.each x.table.now.records c.a_at.result (omega (arith, is.a_below, c.a_at.ensures)) p.store.lent

pub load-requires-in-2 : goal.load-requires-in-2
load-requires-in-2 g c =
    let x = c.args in
    let p = c.requires in
    let is = operator_here x.table.now.bytes.now x.table.now.records x.v p.below x.table.now.checked.valid (sym c.kind_at-kind.ensures ∙ c.in-2.is) in
    placed g.S.Store.layout.each x.table.now.records c.b_at.result (omega (arith, is.b_below, c.b_at.ensures)) p.store.lent

pub width-requires : goal.width-requires
width-requires g c =
    let x = c.args in
    let p = c.requires in
    let is = operator_here x.table.now.bytes.now x.table.now.records x.v p.below x.table.now.checked.valid (sym c.kind_at-kind.ensures ∙ c.in-2.is) in
    omega (arith, is.width_most, c.width_at.ensures)

pub load-requires-in_default : goal.load-requires-in_default
load-requires-in_default g c =
    let x = c.args in
    let p = c.requires in
    let one : c.kind_at-kind.result ≢ 1 = omega arith in
    let two : c.kind_at-kind.result ≢ 2 = omega arith in
    let is =
    multiplexer_here x.table.now.bytes.now x.table.now.records x.v p.below x.table.now.checked.valid p.is (λ e. one (c.kind_at-kind.ensures ∙ e))
    (λ e. two (c.kind_at-kind.ensures ∙ e)) in
    placed g.S.Store.layout.each x.table.now.records c.a_at-in_default.result (omega (arith, is.a_below, c.a_at-in_default.ensures)) p.store.lent

pub load-requires-in_default-2 : goal.load-requires-in_default-2
load-requires-in_default-2 g c =
    let x = c.args in
    let p = c.requires in
    let one : c.kind_at-kind.result ≢ 1 = omega arith in
    let two : c.kind_at-kind.result ≢ 2 = omega arith in
    let is =
    multiplexer_here x.table.now.bytes.now x.table.now.records x.v p.below x.table.now.checked.valid p.is (λ e. one (c.kind_at-kind.ensures ∙ e))
    (λ e. two (c.kind_at-kind.ensures ∙ e)) in
    placed g.S.Store.layout.each x.table.now.records c.b_at-in_default.result (omega (arith, is.b_below, c.b_at-in_default.ensures)) p.store.lent

pub load-requires-in_default-3 : goal.load-requires-in_default-3
load-requires-in_default-3 g c =
    let x = c.args in
    let p = c.requires in
    let one : c.kind_at-kind.result ≢ 1 = omega arith in
    let two : c.kind_at-kind.result ≢ 2 = omega arith in
    let is =
    multiplexer_here x.table.now.bytes.now x.table.now.records x.v p.below x.table.now.checked.valid p.is (λ e. one (c.kind_at-kind.ensures ∙ e))
    (λ e. two (c.kind_at-kind.ensures ∙ e)) in
    placed g.S.Store.layout.each x.table.now.records c.c_at.result (omega (arith, is.c_below, c.c_at.ensures)) p.store.lent

pub width-requires-in_default : goal.width-requires-in_default
width-requires-in_default g c =
    let x = c.args in
    let p = c.requires in
    let one : c.kind_at-kind.result ≢ 1 = omega arith in
    let two : c.kind_at-kind.result ≢ 2 = omega arith in
    let is =
    multiplexer_here x.table.now.bytes.now x.table.now.records x.v p.below x.table.now.checked.valid p.is (λ e. one (c.kind_at-kind.ensures ∙ e))
    (λ e. two (c.kind_at-kind.ensures ∙ e)) in
    omega (arith, is.width_most, c.width_at-in_default.ensures)

pub returns-in-1 : goal.returns-in-1
returns-in-1 g c =
    let x = c.args in
    let read = read_off g.S.Store.layout (g.S.Store.as_numbers x.cells.now) in
    ap Always c.value_at.ensures
    ∙ constant_rule (circuit_of x.table.now) x.v read _ _
    (constant_here x.table.now.bytes.now x.table.now.records x.v c.requires.below (sym c.kind_at-kind.ensures ∙ c.in-1.is))

pub returns-in-2 : goal.returns-in-2
returns-in-2 g c =
    let x = c.args in
    let read = read_off g.S.Store.layout (g.S.Store.as_numbers x.cells.now) in
    let p = c.requires in
    let is = operator_here x.table.now.bytes.now x.table.now.records x.v p.below x.table.now.checked.valid (sym c.kind_at-kind.ensures ∙ c.in-2.is) in
    let op = c.operator_of.ensures ∙ ap operator_of c.code_at.ensures in
    let a = c.load.ensures ∙ ap read c.a_at.ensures in
    let b = c.load-in-2.ensures ∙ ap read c.b_at.ensures in
    c.operator_rule.ensures
    ∙ rw (op, c.width.ensures, c.width_at.ensures, a, b)
    (operator_rule_lem (circuit_of x.table.now) x.v read _ _ _ _ is.is)

pub returns-in_default : goal.returns-in_default
returns-in_default g c =
    let x = c.args in
    let read = read_off g.S.Store.layout (g.S.Store.as_numbers x.cells.now) in
    let p = c.requires in
    let one : c.kind_at-kind.result ≢ 1 = omega arith in
    let two : c.kind_at-kind.result ≢ 2 = omega arith in
    let is =
    multiplexer_here x.table.now.bytes.now x.table.now.records x.v p.below x.table.now.checked.valid p.is (λ e. one (c.kind_at-kind.ensures ∙ e))
    (λ e. two (c.kind_at-kind.ensures ∙ e)) in
    let a = c.load-in_default.ensures ∙ ap read c.a_at-in_default.ensures in
    let b = c.load-in_default-2.ensures ∙ ap read c.b_at-in_default.ensures in
    let d = c.load-in_default-3.ensures ∙ ap read c.c_at.ensures in
    c.multiplexer_rule.ensures
    ∙ rw (c.width-in_default.ensures, c.width_at-in_default.ensures, a, b, d)
    (multiplexer_rule_lem (circuit_of x.table.now) x.v read _ _ _ _ is.is)

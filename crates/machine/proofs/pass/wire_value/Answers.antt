-- What the record gives by its kind, on the numbers that are read at its operands.
-- Assumes nothing.
use Rattle.std.proofs.Common.{sym, ap, ◌∙◌, arith}
use Rattle.circuit.specs.Operator.{operator_code, operator_of}
use Rattle.circuit.specs.Tables.{circuit_of}
use Rattle.circuit.proofs.Operands.{OperatorHere, MultiplexerHere, constant_here, operator_here, multiplexer_here}
use Rattle.circuit.proofs.Evaluation.{constant_value, operator_value, multiplexer_value}
use Rattle.machine.specs.State.{state}
use Rattle.machine.proofs.pass.wire_value.Goals as goal
use Rattle.machine.proofs.pass.wire_value.Goals.{In-2, In_default}

operator : (c : In-2) → OperatorHere c.args.table.now.bytes.now c.args.table.now.records c.args.v
operator c =
    let p = c.requires in
    operator_here _ _ _ p.below p.store.table.valid (sym c.kind_at-kind.ensures ∙ c.in-2.is)

multiplexer : (c : In_default) → MultiplexerHere c.args.table.now.bytes.now c.args.table.now.records c.args.v
multiplexer c =
    let p = c.requires in
    multiplexer_here _ _ _ p.below p.store.table.valid p.is (λ e. omega arith) (λ e. omega arith)

pub bounds-values-a_at : goal.bounds-values-a_at
bounds-values-a_at c =
    let here = operator (goal.at.bounds-values-a_at c).In-2 in
    omega (arith, here.a_below, c.a_at.ensures, c.requires.store.lent)

pub bounds-values-b_at : goal.bounds-values-b_at
bounds-values-b_at c =
    let here = operator (goal.at.bounds-values-b_at c).In-2 in
    omega (arith, here.b_below, c.b_at.ensures, c.requires.store.lent)

pub new-width-requires : goal.new-width-requires
new-width-requires c =
    let here = operator (goal.at.new-width-requires c).In-2 in
    omega (arith, here.width_most, c.width_at.ensures)

pub bounds-values-a_at-in_default : goal.bounds-values-a_at-in_default
bounds-values-a_at-in_default c =
    let here = multiplexer (goal.at.bounds-values-a_at-in_default c).In_default in
    omega (arith, here.a_below, c.a_at-in_default.ensures, c.requires.store.lent)

pub bounds-values-b_at-in_default : goal.bounds-values-b_at-in_default
bounds-values-b_at-in_default c =
    let here = multiplexer (goal.at.bounds-values-b_at-in_default c).In_default in
    omega (arith, here.b_below, c.b_at-in_default.ensures, c.requires.store.lent)

pub bounds-values-c_at : goal.bounds-values-c_at
bounds-values-c_at c =
    let here = multiplexer (goal.at.bounds-values-c_at c).In_default in
    omega (arith, here.c_below, c.c_at.ensures, c.requires.store.lent)

pub new-requires : goal.new-requires
new-requires c =
    let here = multiplexer (goal.at.new-requires c).In_default in
    omega (arith, here.width_most, c.width_at-in_default.ensures)

pub returns-in-1 : goal.returns-in-1
returns-in-1 c =
    let x = c.args in
    c.value_at.ensures
    ∙ constant_value (circuit_of x.table.now) x.v (state x.values.now) _ _
    (constant_here x.table.now.bytes.now x.table.now.records x.v c.requires.below (sym c.kind_at-kind.ensures ∙ c.in-1.is))

pub returns-in-2 : goal.returns-in-2
returns-in-2 c =
    let x = c.args in
    let code =
    c.operator_code-code.ensures
    ∙ ap operator_code (c.operator_of.ensures ∙ ap operator_of c.code_at.ensures) in
    c.evaluate.ensures
    ∙ rw (code, c.new-width.ensures, c.width_at.ensures, c.a_at.ensures, c.b_at.ensures)
    (operator_value (circuit_of x.table.now) x.v (state x.values.now) _ _ _ _ (operator (goal.at.returns-in-2 c).In-2).is)

pub returns-in_default : goal.returns-in_default
returns-in_default c =
    let x = c.args in
    c.multiplex.ensures
    ∙ rw (c.new.ensures, c.width_at-in_default.ensures, c.a_at-in_default.ensures, c.b_at-in_default.ensures, c.c_at.ensures)
    (multiplexer_value (circuit_of x.table.now) x.v (state x.values.now) _ _ _ _
    (multiplexer (goal.at.returns-in_default c).In_default).is)

pub offset_bounds-values-a_at : goal.offset_bounds-values-a_at
offset_bounds-values-a_at c =
    let here = operator (goal.at.offset_bounds-values-a_at c).In-2 in
    omega (arith, here.a_below, c.a_at.ensures, c.args.table.now.checked.small)

pub offset_bounds-values-b_at : goal.offset_bounds-values-b_at
offset_bounds-values-b_at c =
    let here = operator (goal.at.offset_bounds-values-b_at c).In-2 in
    omega (arith, here.b_below, c.b_at.ensures, c.args.table.now.checked.small)

pub offset_bounds-values-a_at-in_default : goal.offset_bounds-values-a_at-in_default
offset_bounds-values-a_at-in_default c =
    let here = multiplexer (goal.at.offset_bounds-values-a_at-in_default c).In_default in
    omega (arith, here.a_below, c.a_at-in_default.ensures, c.args.table.now.checked.small)

pub offset_bounds-values-b_at-in_default : goal.offset_bounds-values-b_at-in_default
offset_bounds-values-b_at-in_default c =
    let here = multiplexer (goal.at.offset_bounds-values-b_at-in_default c).In_default in
    omega (arith, here.b_below, c.b_at-in_default.ensures, c.args.table.now.checked.small)

pub offset_bounds-values-c_at : goal.offset_bounds-values-c_at
offset_bounds-values-c_at c =
    let here = multiplexer (goal.at.offset_bounds-values-c_at c).In_default in
    omega (arith, here.c_below, c.c_at.ensures, c.args.table.now.checked.small)

-- The remainder of what A holds; with an enable of 0, what the register holds.
-- Assumes nothing.
use Rattle.std.proofs.Common.{◌≡◌, ◌%◌, ◌^◌, ◌*◌, sym, ap, ◌∙◌, arith}
use Rattle.circuit.specs.Reading.{fields_at}
use Rattle.circuit.specs.Tables.{circuit_of}
use Rattle.circuit.proofs.Operands.{RegisterHere, register_here}
use Rattle.circuit.proofs.Evaluation.{register_value, held_value, taken_value}
use Rattle.machine.specs.State.{state}
use Rattle.machine.proofs.pass.register_value.Goals as goal
use Rattle.machine.proofs.pass.register_value.Goals.{Start, After-remainder-taken}

here : (c : Start) → RegisterHere c.args.table.now.bytes.now c.args.table.now.records c.args.v
here c =
    let p = c.requires.evaluable in
    register_here _ _ _ p.below p.store.table.valid p.is

taken : (c : After-remainder-taken)
    → c.remainder-taken.result
    ≡ state c.args.values.now (fields_at c.args.table.now.bytes.now (c.args.v * 16)).a
    % 2 ^ (fields_at c.args.table.now.bytes.now (c.args.v * 16)).width
taken c = c.remainder-taken.ensures ∙ rw (c.new.ensures, c.width_at.ensures, c.a_at.ensures)

pub bounds-values-a_at : goal.bounds-values-a_at
bounds-values-a_at c =
    omega (arith, (here (goal.at.bounds-values-a_at c).Start).a_below, c.a_at.ensures, c.requires.evaluable.store.lent)

pub offset_bounds-values-a_at : goal.offset_bounds-values-a_at
offset_bounds-values-a_at c =
    omega (
      arith,
      (here (goal.at.offset_bounds-values-a_at c).Start).a_below,
      c.a_at.ensures,
      c.args.table.now.checked.small,
    )

pub new-requires : goal.new-requires
new-requires c = omega (arith, (here (goal.at.new-requires c).Start).width_most, c.width_at.ensures)

pub returns-then-not-enables : goal.returns-then-not-enables
returns-then-not-enables c =
    let x = c.args in
    let p = c.requires.evaluable in
    let at = goal.at.returns-then-not-enables c in
    taken at.After-remainder-taken
    ∙ register_value (circuit_of x.table.now) x.v (state x.values.now) _ _ _
    ((here at.Start).plain (c.requires.plain_unless c.if-not-enables.true x.v p.below p.is))

pub returns-then-kind_at-eq4 : goal.returns-then-kind_at-eq4
returns-then-kind_at-eq4 c =
    let x = c.args in
    let at = goal.at.returns-then-kind_at-eq4 c in
    taken at.After-remainder-taken
    ∙ register_value (circuit_of x.table.now) x.v (state x.values.now) _ _ _
    ((here at.Start).plain (sym c.kind_at.ensures ∙ c.if-kind_at-eq4.true))

pub bounds-values-b_at : goal.bounds-values-b_at
bounds-values-b_at c =
    omega (
      arith,
      (here (goal.at.bounds-values-b_at c).Start).b_below (λ e. c.if-kind_at-eq4.false (c.kind_at.ensures ∙ e)),
      c.b_at.ensures,
      c.requires.evaluable.store.lent,
    )

pub offset_bounds-values-b_at : goal.offset_bounds-values-b_at
offset_bounds-values-b_at c =
    omega (
      arith,
      (here (goal.at.offset_bounds-values-b_at c).Start).b_below (λ e. c.if-kind_at-eq4.false (c.kind_at.ensures ∙ e)),
      c.b_at.ensures,
      c.args.table.now.checked.small,
    )

pub returns-then-values-b_at-eq0 : goal.returns-then-values-b_at-eq0
returns-then-values-b_at-eq0 c =
    let x = c.args in
    held_value (circuit_of x.table.now) x.v (state x.values.now) _ _ _ _
    ((here (goal.at.returns-then-values-b_at-eq0 c).Start).enabled
    (λ e. c.if-kind_at-eq4.false (c.kind_at.ensures ∙ e)))
    (ap (state x.values.now) (sym c.b_at.ensures) ∙ c.if-values-b_at-eq0.true)

pub returns : goal.returns
returns c =
    let x = c.args in
    let at = goal.at.returns c in
    taken at.After-remainder-taken
    ∙ taken_value (circuit_of x.table.now) x.v (state x.values.now) _ _ _ _
    ((here at.Start).enabled (λ e. c.if-kind_at-eq4.false (c.kind_at.ensures ∙ e)))
    (λ z. c.if-values-b_at-eq0.false (ap (state x.values.now) c.b_at.ensures ∙ z))

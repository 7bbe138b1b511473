-- The control's fact says which arms are used: it is read from the scratch, and is the certificate's.
-- Assumes nothing.
use Rattle.std.proofs.Common.{sym, ◌∙◌}
use mathlib.Core.Logic.{⊎_elim}
use Rattle.path.proofs.Used.{control_lent, multiplexer_uses_lem}
use Rattle.path.proofs.Used.{sorted_zero, sorted_other, sorted_open, sorted_marked}
use Rattle.path.proofs.uses.multiplexer_uses.Goals as goal

pub load-control-requires : goal.load-control-requires
load-control-requires c =
    control_lent c.requires.facts_stand c.args.v c.requires.v_in_bounds c.requires.is_multiplexer c.a_at-a.ensures

pub returns-in-Always-eq0 : goal.returns-in-Always-eq0
returns-in-Always-eq0 c =
    let used =
    multiplexer_uses_lem c.requires.facts_stand c.args.v c.requires.v_in_bounds c.requires.is_multiplexer c.a_at-a.ensures
    c.b_at-b.ensures c.c_at-c.ensures c.load-control.ensures in
    let zero = c.in-Always-eq0 in
    sorted_zero used zero.is (sym zero.field-0-is ∙ zero.field-0-test) c.sorted.ensures

pub returns-in-Always : goal.returns-in-Always
returns-in-Always c =
    let used =
    multiplexer_uses_lem c.requires.facts_stand c.args.v c.requires.v_in_bounds c.requires.is_multiplexer c.a_at-a.ensures
    c.b_at-b.ensures c.c_at-c.ensures c.load-control.ensures in
    let other = c.in-Always in
    sorted_other used other.is (λ e. other.field-0-test.1 (other.field-0-is ∙ e)) c.sorted-in-Always.ensures

pub returns-in-Open : goal.returns-in-Open
returns-in-Open c =
    let used =
    multiplexer_uses_lem c.requires.facts_stand c.args.v c.requires.v_in_bounds c.requires.is_multiplexer c.a_at-a.ensures
    c.b_at-b.ensures c.c_at-c.ensures c.load-control.ensures in
    ⊎_elim (λ e. sorted_open used e c.sorted-in-Open.ensures) (λ e. sorted_marked used e c.sorted-in-Open.ensures)
    c.in-Open.is

-- What the record of each kind uses, in order: a multiplexer's uses, A alone, or A and B.
-- Assumes nothing.
use Rattle.std.proofs.Common.{sym, ◌∙◌, arith}
use Rattle.path.proofs.Used.{sorted_register, sorted_pair}
use Rattle.path.proofs.uses.uses_under.Goals as goal

pub returns-in-4 : goal.returns-in-4
returns-in-4 c =
    sorted_register c.requires.facts_stand c.args.v c.requires.v_in_bounds (sym c.kind_at-kind.ensures ∙ c.in-4.is)
    c.a_at.ensures

pub returns-in_default : goal.returns-in_default
returns-in_default c =
    sorted_pair c.requires.facts_stand c.args.v c.requires.v_in_bounds (λ e. omega (arith, e)) (λ e. omega (arith, e))
    c.requires.uses_some c.a_at-in_default.ensures c.b_at-b.ensures c.sorted.ensures

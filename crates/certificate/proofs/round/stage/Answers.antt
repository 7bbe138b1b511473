-- Each register's next fact is staged, and compared with the one it has.
-- Assumes nothing.
use Rattle.std.proofs.Common.{◌≡◌, not, ap, ap₂, ◌∙◌, arith, rules}
use Rattle.buffer.proofs.Layouts.{numbers_laws, wrote_number}
use Rattle.fact.specs.declared.Fact.{Fact}
use Rattle.fact.specs.Fact.{same, fact_byte}
use Rattle.fact.specs.Rule.{rule}
use Rattle.engine.specs.Plans.{circuit_of}
use Rattle.engine.specs.Registers.{next_of, stays_at}
use Rattle.engine.specs.Rules.{read_off}
use Rattle.engine.proofs.Standing.{placed, plan_register_at, plan_register_below, plan_register}
use Rattle.engine.proofs.Passes.{none_begun, one_begun}
use Rattle.engine.proofs.Rounds.{changes_none, changes_more}
use Rattle.certificate.proofs.round.stage.Goals as goal

pub loop-j-init : goal.loop-j-init
loop-j-init g c = record { staged = none_begun _; changes = changes_none _ }

pub register_fact-fact-requires : goal.register_fact-fact-requires
register_fact-fact-requires g c =
    plan_register c.args.plan.now c.loop-j-test.true c.from-v.ensures c.requires.lent

pub load-requires : goal.load-requires
load-requires g c =
    let p = c.args.plan.now in
    placed g.S.Store.layout.each p.table.records c.from-v.result (plan_register_below p c.loop-j-test.true c.from-v.ensures)
    c.requires.lent

pub loop-j-preserved : goal.loop-j-preserved
unfolding same
loop-j-preserved g c =
    let p = c.args.plan.now in
    let h = c.loop-j-test.true in
    let e = plan_register_at p h c.from-v.ensures in
    let C = circuit_of p in
    let s = read_off g.S.Store.layout (g.S.Store.as_numbers c.args.cells.now) in
    let fact : c.register_fact-fact.result ≡ next_of C (rule C) s c.loop-j.j =
    c.register_fact-fact.ensures ∙ ap (rule C s) e in
    record {
      staged =
          one_begun numbers_laws c.loop-j.invariant.staged h (omega arith)
          (c.from.ensures ∙ c.byte.ensures ∙ ap fact_byte fact)
          (wrote_number _ c.loop-j.j _ (omega (arith, c.requires.room, c.loop-j.auto.staging)));
      changes =
          changes_more (stays_at C (rule C) same s) c.loop-j.j
          (search rules
          ∙ ap₂ (λ (f g : Fact). not (same f g)) fact (c.load.ensures ∙ ap s e))
          c.loop-j.invariant.changes;
    }

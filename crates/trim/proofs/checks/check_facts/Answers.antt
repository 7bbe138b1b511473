-- The first bad fact is told, and else none is bad.
-- Assumes nothing.
use Rattle.std.proofs.Common.{sym, ◌∙◌, below_more, arith}
use Rattle.trim.proofs.Grounds.{facts_pass, facts_refused, bad_here}
use Rattle.trim.proofs.checks.check_facts.Goals as goal

pub returns-then-bad_fact : goal.returns-then-bad_fact
returns-then-bad_fact c =
    let a = c.args in
    let here = bad_here _ _ c.loop-v.v a.certificate.now c.loop-v-test.true in
    rw c.at.ensures
    (sym (facts_refused _ a.certificate.now _ 0 c.loop-v.v (omega arith) (omega arith)
    (sym (c.bad_fact.ensures ∙ here) ∙ c.if-bad_fact.true) (λ u _ h. c.loop-v.invariant u h)))

pub loop-v-preserved : goal.loop-v-preserved
loop-v-preserved c =
    let a = c.args in
    let here = bad_here _ _ c.loop-v.v a.certificate.now c.loop-v-test.true in
    below_more _ _ c.loop-v.invariant (sym (c.bad_fact.ensures ∙ here) ∙ c.if-bad_fact.false)

pub returns : goal.returns
returns c =
    sym (facts_pass _ c.args.certificate.now _ 0
    (λ v _ h. c.loop-v.invariant v (omega arith)))

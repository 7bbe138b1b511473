-- Each register has its staged fact.
-- Assumes nothing.
use Rattle.std.proofs.Common.{◌≡◌, refl, sym, ap, ◌∙◌, get_or, arith}
use Rattle.buffer.proofs.Store.{numbers_read}
use Rattle.circuit.proofs.Operands.{initial_here}
use Rattle.fact.specs.Fact.{fact_of, fact_byte}
use Rattle.fact.specs.Rule.{rule}
use Rattle.fact.proofs.Rules.{register_byte}
use Rattle.engine.specs.Plans.{circuit_of}
use Rattle.engine.specs.Rules.{read_off}
use Rattle.engine.proofs.Standing.{placed, plan_listed, plan_register_at, plan_register_below, plan_register_role}
use Rattle.engine.proofs.Passes.{none_committed, one_stepped, all_stepped, gives_off}
use Rattle.certificate.specs.Lawful.{lawful}
use Rattle.certificate.proofs.round.commit.Goals as goal

pub loop-j-init : goal.loop-j-init
loop-j-init g c = none_committed g.met.S.Store.laws (lawful c.args.plan.now.table.checked) _ _

pub write_staged-requires-clause-record : goal.write_staged-requires-clause-record
write_staged-requires-clause-record g c =
    let p = c.args.plan.now in
    omega (arith, plan_register_below p c.loop-j-test.true c.from.ensures, p.table.checked.long)

pub write_staged-requires-clause-lent : goal.write_staged-requires-clause-lent
write_staged-requires-clause-lent g c =
    let p = c.args.plan.now in
    placed g.S.Store.layout.each p.table.records c.from.result (plan_register_below p c.loop-j-test.true c.from.ensures)
    (omega (arith, c.requires.lent, c.loop-j.invariant.kept.long))

pub loop-j-preserved : goal.loop-j-preserved
loop-j-preserved g c =
    let p = c.args.plan.now in
    let h = c.loop-j-test.true in
    let e = c.from.ensures in
    let j = c.loop-j.j in
    let v = c.from.result in
    let C = circuit_of p in
    let s = read_off g.S.Store.layout (g.S.Store.as_numbers c.args.cells.now) in
    let below = plan_register_below p h e in
    let is_register = plan_register_role p h e in
    let byte : get_or c.args.staging.now j 0 ≡ fact_byte (rule C s v) =
    numbers_read c.requires.stands j h ∙ ap (λ u. fact_byte (rule C s u)) (sym (plan_register_at p h e)) in
    let is : fact_of (get_or c.args.staging.now j 0) _ ≡ rule C s v =
    register_byte C s v is_register (initial_here p.table.bytes.now p.table.records v below is_register) byte refl in
    one_stepped g.met.S.Store.laws (lawful p.table.checked) c.loop-j.invariant (plan_listed p h e) (plan_register_at p h e)
    (gives_off g.met.S.Store.laws (lawful p.table.checked) below is) refl c.write_staged.ensures

pub returns : goal.returns
returns g c =
    let p = c.args.plan.now in
    all_stepped g.met.S.Store.laws (lawful p.table.checked) c.loop-j.invariant (rw (← p.listed) (omega arith))

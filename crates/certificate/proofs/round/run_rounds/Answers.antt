-- A round that is made is one of those counted; one that changes no register is the first that is not.
-- Assumes nothing.
use Rattle.std.proofs.Common.{not, ap, arith}
use Rattle.std.proofs.Math.Nat.{mul-one}
use Rattle.buffer.proofs.Filled.{kept_none, kept_trans}
use Rattle.engine.proofs.Rounds.{run_start, run_next}
use Rattle.certificate.proofs.Rounds.{rounds_small, goes_on, stops, certificate_holds}
use Rattle.certificate.proofs.round.run_rounds.Goals as goal

pub loop-changed-init : goal.loop-changed-init
loop-changed-init g c = record { kept = kept_none _ _; running = run_start c.requires.stands }

pub overflow_add-count : goal.overflow_add-count
overflow_add-count g c =
    let p = c.args.plan.now in
    let counts =
    goes_on p c.loop-changed.invariant.running c.stage-changed.ensures.value (ap not c.if-not-changed.false) in
    omega (arith, counts, rounds_small p)

pub loop-changed-smaller : goal.loop-changed-smaller
loop-changed-smaller g c =
    let counts =
    goes_on c.args.plan.now c.loop-changed.invariant.running c.stage-changed.ensures.value
    (ap not c.if-not-changed.false) in
    omega (arith, counts)

pub loop-changed-preserved : goal.loop-changed-preserved
loop-changed-preserved g c =
    let inv = c.loop-changed.invariant in
    let counts =
    goes_on c.args.plan.now inv.running c.stage-changed.ensures.value (ap not c.if-not-changed.false) in
    record {
      kept = kept_trans inv.kept (rw mul-one at c.stage-changed.ensures.holds.kept);
      running = run_next inv.running c.commit.ensures c.settle.ensures counts;
    }

pub returns-clause-holds : goal.returns-clause-holds
returns-clause-holds g c =
    certificate_holds c.args.plan.now c.loop-changed.invariant.running c.stage-changed.ensures.value
    (ap not c.if-not-changed.true)

pub returns-clause-value : goal.returns-clause-value
returns-clause-value g c =
    stops c.args.plan.now c.loop-changed.invariant.running c.stage-changed.ensures.value
    (ap not c.if-not-changed.true)

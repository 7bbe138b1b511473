-- A variable whose bytes are its fact's is passed over; the first other one is ground 24.
-- Assumes nothing.
use Rattle.std.proofs.Common.{not, sym, ap, ◌∙◌, arith}
use Rattle.circuit.specs.declared.refusal.Ground.TheVariants.{ForeignCertificate}
use Rattle.circuit.proofs.First.{first_start, first_passed, first_refused, first_end}
use Rattle.analysis.proofs.Own.{differs}
use Rattle.analysis.proofs.compare.check_own.Goals as goal

pub loop-v-init : goal.loop-v-init
loop-v-init c = first_start ForeignCertificate (differs c.args.certificate.now c.args.s.now) c.args.n

pub returns-then-not-same_bytes : goal.returns-then-not-same_bytes
returns-then-not-same_bytes c =
    let x = c.args in
    rw c.at.ensures
    (sym (c.loop-v.invariant
    ∙ first_refused ForeignCertificate (differs x.certificate.now x.s.now) x.n c.loop-v.v (omega arith)
    (ap not (sym c.same_bytes.ensures ∙ c.if-not-same_bytes.true))))

pub loop-v-preserved : goal.loop-v-preserved
loop-v-preserved c =
    let x = c.args in
    c.loop-v.invariant
    ∙ first_passed ForeignCertificate (differs x.certificate.now x.s.now) x.n c.loop-v.v (omega arith)
    (ap not (sym c.same_bytes.ensures ∙ c.if-not-same_bytes.false))

pub returns : goal.returns
returns c =
    let x = c.args in
    sym (c.loop-v.invariant
    ∙ first_end ForeignCertificate (differs x.certificate.now x.s.now) x.n c.loop-v.v (omega arith))

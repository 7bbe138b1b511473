-- Each turn runs the stimulus that stands at its place, which passed the checks.
-- Assumes nothing.
use lib.ListN.{length, take}
use lib.Seq.{take_all}
use Rattle.std.proofs.Common.{◌≡◌, sym, subst, arith, length-append}
use Rattle.net.specs.declared.Stimulus.{Stimulus}
use Rattle.circuit.specs.Refusal.{passed}
use Rattle.std.specs.Prelude.{Ok}
use Rattle.engine.specs.Plans.{circuit_of}
use Rattle.circuit.specs.Stimuli.{check_stimulus}
use Rattle.circuit.proofs.Stimuli.{stimulus_passed}
use Rattle.machine.proofs.Acting.{act_same}
use Rattle.machine.proofs.Reading.{read_next, read_all, stimulus_told}
use Rattle.machine.proofs.Running.{none_ran, one_ran, all_ran}
use Rattle.machine.proofs.run.run.Goals as goal

pub returns-then-s-lt8-clause-moves : goal.returns-then-s-lt8-clause-moves
returns-then-s-lt8-clause-moves c = all_ran (none_ran c.args.plan.now c.args.s.now {staging = c.args.staging.now}) (omega arith)

pub loop-read-init : goal.loop-read-init
loop-read-init c =
    let s = c.args.s.now in
    let same : take (length s) s ≡ s = take_all (length s) s (omega arith) in
    record { reader = record { list = grind (arith, same); place = cc }; ran = none_ran _ _ }

pub act-requires-clause-stimulus_value : goal.act-requires-clause-stimulus_value
act-requires-clause-stimulus_value c =
    let x = c.args in
    let C = circuit_of x.plan.now in
    let (more, is, reader) = read_next c.loop-read.invariant.reader c.next.new.self c.in-Some.ensures.steps in
    let (good, fine) = stimulus_passed C x.s.now c.requires.s_value _ more in
    subst (λ (y : Stimulus). check_stimulus C (Ok y) 0 ≡ passed)
    (sym (stimulus_told x.s.now _ c.stimulus_in.ensures is good)) fine

pub loop-read-preserved : goal.loop-read-preserved
loop-read-preserved c =
    let x = c.args in
    let C = circuit_of x.plan.now in
    let (more, is, reader) = read_next c.loop-read.invariant.reader c.next.new.self c.in-Some.ensures.steps in
    let (good, fine) = stimulus_passed C x.s.now c.requires.s_value _ more in
    rw length-append
    record {
      reader = reader;
      ran =
          one_ran c.loop-read.invariant.ran more c.act.ensures.kept
          (act_same C (stimulus_told x.s.now _ c.stimulus_in.ensures is good) c.act.ensures.moves);
    }

pub returns-clause-moves : goal.returns-clause-moves
returns-clause-moves c =
    let l = c.loop-read.invariant in all_ran l.ran (read_all l.reader c.next.new.self c.in-None.ensures.steps)

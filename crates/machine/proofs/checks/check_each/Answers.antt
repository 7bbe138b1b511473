-- Each turn cites the step of the checks that it takes.
-- Assumes nothing.
use Rattle.std.proofs.Common.{sym, ◌∙◌}
use Rattle.std.proofs.lemmas.Result.{err_from_is_err_and}
use Rattle.std.specs.Iterator.Adapters.{enumerate_source}
use Rattle.circuit.specs.Tables.{circuit_of}
use Rattle.machine.proofs.Checking.{each_more, each_refused, each_end}
use Rattle.machine.proofs.Reading.{read_next, read_all}
use Rattle.machine.proofs.checks.check_each.Goals as goal

pub loop-i-preserved : goal.loop-i-preserved
loop-i-preserved c =
    let x = c.args in
    let l = c.loop-i in
    let (stepped, at, counted, few) = c.in-Some.ensures.steps in
    let (more, is, reader) = read_next l.invariant.reader (enumerate_source c.next.new.self) stepped in
    rw counted
    record {
      reader = reader;
      found =
          l.invariant.found
          ∙ each_more (circuit_of x.table.now) x.s.now _ _ more (rw (← is, ← at) (sym c.check_stimulus.ensures ∙ c.in_ok-check_stimulus.was));
    }

pub returns-in_err-check_stimulus : goal.returns-in_err-check_stimulus
returns-in_err-check_stimulus c =
    let x = c.args in
    let l = c.loop-i in
    let (stepped, at, counted, few) = c.in-Some.ensures.steps in
    let (more, is, reader) = read_next l.invariant.reader (enumerate_source c.next.new.self) stepped in
    let p = err_from_is_err_and c.from_residual.result c.from_residual.ensures.1 in
    rw (p.1, p.2)
    (sym (l.invariant.found
    ∙ each_refused (circuit_of x.table.now) x.s.now _ _ more _
    (rw (← is, ← at) (sym c.check_stimulus.ensures ∙ c.in_err-check_stimulus.was))))

pub returns : goal.returns
returns c =
    let x = c.args in
    sym (c.loop-i.invariant.found
    ∙ each_end (circuit_of x.table.now) x.s.now _ _ (read_all c.loop-i.invariant.reader (enumerate_source c.next.new.self) c.in-None.ensures.steps.0))

-- What the answer shows stands in the buffers.
-- Assumes nothing.
use Rattle.std.proofs.Common.{arith}
use Rattle.machine.specs.Promise.{answer_of}
use Rattle.text.proofs.Answers.{benched_stands}
use Rattle.text.proofs.bench_text.Goals as goal

pub put_benched-requires-clause-answer_stands : goal.put_benched-requires-clause-answer_stands
put_benched-requires-clause-answer_stands c =
    benched_stands _ _ _ _ _ _ (omega (arith, c.bench-answer.auto.values)) (answer_of c.bench-answer.result) c.bench-answer.ensures

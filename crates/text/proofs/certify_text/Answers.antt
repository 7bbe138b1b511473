-- What the answer shows stands in the buffers.
-- Assumes nothing.
use Rattle.std.proofs.Common.{arith}
use Rattle.text.proofs.Answers.{certified_stands}
use Rattle.text.proofs.certify_text.Goals as goal

pub put_certified-requires-clause-answer_stands : goal.put_certified-requires-clause-answer_stands
put_certified-requires-clause-answer_stands c =
    certified_stands _ _ _ _ _ (omega (arith, c.certify-answer.auto.certificate)) c.certify-answer.result c.certify-answer.ensures

-- What the answer shows stands in the buffer.
-- Assumes nothing.
use Rattle.std.proofs.Common.{arith}
use Rattle.text.proofs.Answers.{billed_stands}
use Rattle.text.proofs.bill_text.Goals as goal

pub put_billed-requires-clause-bill_stands : goal.put_billed-requires-clause-bill_stands
put_billed-requires-clause-bill_stands c =
    billed_stands _ _ _ (omega (arith, c.bill-answer.auto.shares)) c.bill-answer.result c.bill-answer.ensures

-- What the answer tells is within both outputs.
-- Assumes nothing.
use Rattle.std.proofs.Common.{arith}
use Rattle.text.proofs.Answers.{trimmed_stands, within_more}
use Rattle.text.proofs.trim_bytes.Goals as goal

pub put_trimmed-requires-clause-answer_bound : goal.put_trimmed-requires-clause-answer_bound
put_trimmed-requires-clause-answer_bound c =
    (trimmed_stands _ _ _ _ _ _ _ _ _ (omega (arith, c.trim-answer.auto)) (omega (arith, c.trim-answer.auto))
    c.trim-answer.result c.trim-answer.ensures).0

pub returns-clause-within : goal.returns-clause-within
returns-clause-within c =
    let call = c.trim-answer in
    let put = c.put_trimmed in
    let stands =
    trimmed_stands _ _ _ _ _ _ _ _ _ (omega (arith, call.auto)) (omega (arith, call.auto)) call.result
    call.ensures in (
      within_more put.result _ _ _ _ stands.1 (omega arith) put.ensures.within,
      within_more put.result _ _ _ _ stands.2 (omega arith) put.ensures.within,
      omega arith,
    )

-- What the answer shows stands in the buffers.
-- Assumes nothing.
use Rattle.text.proofs.Answers.{traced_stands}
use Rattle.text.proofs.path_text.Goals as goal

pub put_path-requires-clause-path_stands : goal.put_path-requires-clause-path_stands
put_path-requires-clause-path_stands c =
    traced_stands _ _ _ _ _ _ c.path-answer.result c.path-answer.ensures

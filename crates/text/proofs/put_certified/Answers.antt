-- The line of the rounds stands before those of the facts.
-- Assumes nothing.
use Rattle.text.proofs.Pieces.{puts_then}
use Rattle.text.proofs.put_certified.Goals as goal

pub returns-in-Ok : goal.returns-in-Ok
returns-in-Ok c = rw c.in-Ok.is (puts_then c.put_facts.ensures.put c.put_number_line.ensures)

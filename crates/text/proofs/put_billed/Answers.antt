-- The line of the bill stands before those of the shares. A refusal of an order is on no loop, so that its line is all
-- that is put.
-- Assumes nothing.
use Rattle.std.proofs.Common.{[], sym}
use Rattle.text.proofs.Pieces.{puts_then, puts_as}
use Rattle.text.proofs.Answers.{other_text}
use Rattle.text.proofs.put_billed.Goals as goal

pub returns-in-Ok : goal.returns-in-Ok
returns-in-Ok c = rw c.in-Ok.is (puts_then c.put_values.ensures.put c.put_number_line.ensures)

pub returns-in-Err : goal.returns-in-Err
returns-in-Err c =
    let none = rw c.in-Err.is at c.requires.bill_stands in
    rw c.in-Err.is
    (puts_as (sym (other_text c.in-Err.refusal.reason c.in-Err.refusal.place [] none)) c.put_refusal.ensures)

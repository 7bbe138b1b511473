-- A turn puts one digit more; the last is put behind the loop.
-- Assumes nothing.
use Rattle.std.proofs.Common.{arith}
use Rattle.text.proofs.Pieces.{digits_room, one_digit, last_digit}
use Rattle.text.proofs.writer.Writer.put_number.Goals as goal

pub put_byte-requires : goal.put_byte-requires
put_byte-requires c = digits_room c.loop-rest.invariant c.requires

pub loop-rest-preserved : goal.loop-rest-preserved
loop-rest-preserved c = one_digit c.loop-rest.invariant (omega arith) c.put_byte.ensures

pub put_byte-requires-2 : goal.put_byte-requires-2
put_byte-requires-2 c = digits_room c.loop-rest.invariant c.requires

pub returns : goal.returns
returns c = last_digit c.loop-rest.invariant (omega arith) c.put_byte-2.ensures

-- The line's end, the place, a word, the ground's number and a word.
-- Assumes nothing.
use Rattle.std.proofs.Common.{ℕ, ◌++◌, ap, arith}
use Rattle.text.specs.Text.{decimal, newline, is_refused, at}
use Rattle.text.proofs.Decimal.{decimal_short}
use Rattle.text.proofs.Pieces.{puts_then, puts_as}
use Rattle.text.proofs.writer.Writer.put_refusal.Goals as goal

pub put_number-requires : goal.put_number-requires
put_number-requires c = omega (arith, decimal_short 19 c.args.refusal.place (omega arith))

pub put_word-requires : goal.put_word-requires
put_word-requires c = omega (arith, decimal_short 19 c.args.refusal.place (omega arith))

pub put_number-requires-2 : goal.put_number-requires-2
put_number-requires-2 c =
    omega (
      arith,
      decimal_short 19 c.args.refusal.place (omega arith),
      decimal_short 19 c.ground_number.result (omega arith),
    )

pub put_word-requires-2 : goal.put_word-requires-2
put_word-requires-2 c =
    omega (
      arith,
      decimal_short 19 c.args.refusal.place (omega arith),
      decimal_short 19 c.ground_number.result (omega arith),
    )

pub returns : goal.returns
returns c =
    puts_as
    (ap (λ (k : ℕ). (is_refused ++ (decimal k ++ (at ++ (decimal c.args.refusal.place ++ newline))))) c.ground_number.ensures)
    (puts_then
    (puts_then (puts_then (puts_then c.put_byte.ensures c.put_number.ensures) c.put_word.ensures) c.put_number-2.ensures)
    c.put_word-2.ensures)

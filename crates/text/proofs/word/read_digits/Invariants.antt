-- The loop's invariant: the digits from the index on follow those of the number so far.
-- Assumes nothing.
use Rattle.std.proofs.Common.{◌≡◌, ◌^◌, ◌<◌, drop}
use Rattle.text.specs.Words.{value}
use Rattle.text.proofs.word.read_digits.Given as goal

abbrev pub invariant-loop-digit : goal.invariant-loop-digit
invariant-loop-digit l = record {
  fits : l.n < 2 ^ 32;
  same : value 0 l.word ≡ value l.n (drop l.digit-index l.word);
}

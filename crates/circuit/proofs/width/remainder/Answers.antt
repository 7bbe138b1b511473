-- The digits of x below the width are those where 2 to the width, less 1, has ones.
-- Assumes nothing.
use Rattle.std.proofs.Common.{◌≡◌, ℕ, ◌-◌, ◌%◌, ◌^◌, ap, ◌∙◌}
use lib.Bits.{bit_and, and_mask}
use Rattle.circuit.proofs.width.remainder.Goals as goal

masked : (x w m : ℕ) → m ≡ 2 ^ w → bit_and x (m - 1) ≡ x % 2 ^ w
masked x w m e = ap (λ y. bit_and x (y - 1)) e ∙ and_mask x w

pub returns : goal.returns
returns c = rw c.from.ensures (masked c.args.x c.args.w c.args.modulus c.requires)

-- A table of powers of two: one test of the whole table gives the rule at each entry.
-- Assumes nothing.
use Rattle.std.proofs.Common.{ℕ, ◌^◌, Bool, T, eqb, List, get_or, arith, eqb→eq}
use Rattle.net.specs.Tests.{all_below}
use Rattle.net.proofs.Bools.{all_at}
use Rattle.circuit.specs.Powers.{Powers}

-- whether entry w of the table is 2^w
abbrev pub power_at : List ℕ → ℕ → Bool
power_at l w = eqb (get_or l w 0) (2 ^ w)

-- where the test passes at every w from 0 to 32, the rule holds at each
pub powers_hold : (l : List ℕ) → T (all_below (power_at l) 33) → Powers l
powers_hold l test w most = eqb→eq (get_or l w 0) (2 ^ w) (all_at (power_at l) 33 test w (omega arith))

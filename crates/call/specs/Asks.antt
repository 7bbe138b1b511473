-- What a call asks, as it can be computed.
-- Assumes nothing.
use Rattle.std.specs.Prelude.{List, ℕ, replicate}
use Rattle.circuit.specs.Faults.{constant, told}
use Rattle.call.specs.Call.{Call, lent, checked}

-- what the call finds of a table of one record, with so much lent of its output and of its scratch: nothing, or the
-- number of a ground and the place
abbrev pub found_of : Call → ℕ → ℕ → List ℕ
found_of call output scratch = told (checked call (lent constant (replicate output 0) (replicate scratch 0)))

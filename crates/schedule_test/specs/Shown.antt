-- How much of the scratch a schedule shows.
-- Assumes nothing.
use Rattle.std.specs.Prelude.{ℕ, ◌+◌, Result, Ok, Err}
use Rattle.circuit.specs.declared.refusal.Refusal.{Refusal}
use Rattle.schedule.specs.declared.Order.{Order}

-- an order with the registers behind it, or a loop
abbrev pub shown : Result Order Refusal → ℕ
shown (Ok o) = o.wires + o.registers
shown (Err r) = r.place

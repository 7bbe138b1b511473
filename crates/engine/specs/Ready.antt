-- What the passes of a call work with: a checked table, a lent buffer for a store of its variables, and the order of
-- its wires and registers in the scratch. Each is one premise of a contract.
-- Assumes nothing.
use Rattle.std.specs.Prelude.{◌≡◌, List, ℕ, ◌+◌, ◌*◌, ◌≤◌, ◌<◌, length, take}
use Rattle.net.specs.Net.{Role}
use Rattle.buffer.specs.Store.{Layout}
use Rattle.circuit.specs.Record as records
use Rattle.circuit.specs.Circuit.{circuit, record_of}
use Rattle.circuit.specs.Checks.{Checked}
use Rattle.schedule.specs.Schedule.{register_list, Listed, Ordered}

-- a buffer has room for a value of each variable of a checked table
pub record StoreLent {A : Type 0} (L : Layout A) (t : List ℕ) (n : ℕ) (cells : List ℕ) : Type 0 where
  pub table : Checked t n
  pub lent : n * L.each ≤ length cells

-- and v is one of the variables, of this role
pub record Evaluable {A : Type 0} (L : Layout A) (role : Role) (t : List ℕ) (n : ℕ) (cells : List ℕ)
    (v : ℕ) : Type 0 where
  pub store : StoreLent L t n cells
  pub below : v < n
  pub is : records.role (record_of (circuit t n) v) ≡ role

-- and the wires stand in front of the scratch, in their order
pub record Wired {A : Type 0} (L : Layout A) (t : List ℕ) (n : ℕ) (scratch : List ℕ) (wires : ℕ)
    (cells : List ℕ) : Type 0 where
  pub store : StoreLent L t n cells
  pub few : wires ≤ length scratch
  pub order : Ordered (circuit t n) (take wires scratch)

-- and the registers stand behind them, in a scratch of `room` numbers a record
pub record Ready {A : Type 0} (L : Layout A) (room : ℕ) (t : List ℕ) (n : ℕ) (scratch : List ℕ)
    (wires registers : ℕ) (cells : List ℕ) : Type 0 where
  pub wired : Wired L t n scratch wires cells
  pub scratch_long : n * room ≤ length scratch
  pub fits : wires + registers ≤ n
  pub all_registers : registers ≡ length (register_list (circuit t n))
  pub listed : Listed (circuit t n) scratch wires

-- the wires of a table stand in front of a buffer, in their order, and its registers behind them
pub record InOrder (t : List ℕ) (n : ℕ) (order : List ℕ) (wires registers : ℕ) : Type 0 where
  pub fits : wires + registers ≤ length order
  pub ordered : Ordered (circuit t n) (take wires order)
  pub all_registers : registers ≡ length (register_list (circuit t n))
  pub listed : Listed (circuit t n) order wires

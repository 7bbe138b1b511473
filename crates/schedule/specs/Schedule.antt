-- What a schedule of a circuit is: an order of its wires with the registers behind them, or a loop; and how either
-- stands in the lent scratch, of which a part is used.
-- Assumes nothing.
use Rattle.std.specs.Prelude.{◌≡◌, true, false, Result, Ok, Err, List, [], ◌∷◌, ◌++◌, ℕ, zero, suc, ◌+◌, ◌-◌, ◌≤◌, ◌<◌, length, get_or, drop, replicate}
use Rattle.net.specs.Net.{wire}
use Rattle.net.specs.Loop.{Uses, Loop, LowestFirst}
use Rattle.circuit.specs.Record.{role, is_register}
use Rattle.circuit.specs.Circuit.{Circuit, record_of, graph}
use Rattle.circuit.specs.declared.refusal.Ground.TheVariants as grounds
use Rattle.circuit.specs.declared.refusal.Refusal.{Refusal}
use Rattle.schedule.specs.declared.Order.{Order}

-- the wires of a circuit, each once, each after the wires that it uses
pub record Ordered (c : Circuit) (order : List ℕ) : Type 0 where
  pub wires : (i : ℕ) → i < length order → (get_or order i 0 < length c) × (role (record_of c (get_or order i 0)) ≡ wire)
  pub distinct : (i j : ℕ) → i < length order → j < length order → get_or order i 0 ≡ get_or order j 0 → i ≡ j
  pub all : (v : ℕ) → v < length c → role (record_of c v) ≡ wire → (i : ℕ) × (i < length order) × (get_or order i 0 ≡ v)
  pub after : (i u : ℕ) → i < length order → Uses (graph c) (get_or order i 0) u → role (record_of c u) ≡ wire
      → (j : ℕ) × (j < i) × (get_or order j 0 ≡ u)

-- the registers among `count` variables from variable i on, ascending
unfoldable pub registers_from : Circuit → ℕ → ℕ → List ℕ
registers_from c zero i = []
registers_from c (suc count) i =
    elim (is_register (record_of c i)) [
      | true ↦ i ∷ registers_from c count (i + 1)
      | false ↦ registers_from c count (i + 1)
    ]

-- the registers of a circuit, ascending
unfoldable pub register_list : Circuit → List ℕ
unfolding registers_from
register_list c = registers_from c (length c) 0

-- the registers stand in the scratch from a place on
abbrev pub Listed : Circuit → List ℕ → ℕ → Type 0
Listed c scratch first = (j : ℕ) → j < length (register_list c) → get_or scratch (first + j) 0 ≡ get_or (register_list c) j 0

-- an order in the scratch: the wires, then the registers, then zeros up to the end of the part; what lies past the
-- part is as it was
pub record IsOrder (c : Circuit) (part : ℕ) (entry exit : List ℕ) (wires registers : ℕ) : Type 0 where
  pub order : List ℕ
  pub ordered : Ordered c order
  pub order_length : length order ≡ wires
  pub registers_length : length (register_list c) ≡ registers
  pub fits : wires + registers ≤ length c
  pub scratch : exit
      ≡ order ++ (register_list c ++ (replicate (part - (wires + registers)) 0 ++ drop part entry))

-- a loop in the scratch, its lowest variable first, then zeros up to the end of the part; what lies past the part is
-- as it was
pub record IsLoop (c : Circuit) (part : ℕ) (entry exit : List ℕ) (size : ℕ) : Type 0 where
  pub row : List ℕ
  pub loop : Loop (graph c) row
  pub lowest : LowestFirst row
  pub row_length : length row ≡ size
  pub scratch : exit ≡ row ++ (replicate (part - size) 0 ++ drop part entry)

-- what stands in the scratch, by what is answered
abbrev pub Scheduled : Circuit → ℕ → List ℕ → List ℕ → Result Order Refusal → Type 0
Scheduled c part entry exit (Ok o) = IsOrder c part entry exit o.wires o.registers
Scheduled c part entry exit (Err r) = (r.reason ≡ grounds.Loop) × IsLoop c part entry exit r.place

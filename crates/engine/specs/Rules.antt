-- Rules, by which the variables of a table get their values from a store of them.
-- Assumes nothing.
use Rattle.std.specs.Prelude.{List, ℕ, ◌*◌}
use Rattle.net.proofs.Settle.{Local, Agree}
use Rattle.buffer.specs.Store.{Layout}
use Rattle.circuit.specs.Circuit.{circuit, graph}

-- what is asked of a rule: a wire's value depends on what it uses, and no value on what is no variable
pub record Lawful {A : Type 0} (t : List ℕ) (n : ℕ) (f : (ℕ → A) → ℕ → A) : Type 0 where
  pub local : Local (graph (circuit t n)) f
  pub agree : (r s : ℕ → A) → Agree (graph (circuit t n)) r s → Agree (graph (circuit t n)) (f r) (f s)

-- the store that stands in front of a buffer
abbrev pub read_off : {A : Type 0} → Layout A → List ℕ → ℕ → A
read_off L l v = L.at l (v * L.each)

-- The machine's values as a rule on numbers, and numbers in two halves.
-- Assumes nothing.
use mathlib.Core.Path.{◌≡◌, refl, ap₂}
use mathlib.Core.List.{List}
use Prim.Native.Nat.{ℕ, ◌+◌, ◌*◌, ◌<◌}
use native.Mathlib.Nat.{add-zero, mul-one}
use native.Mathlib.Omega.{arith}
use lib.ListN.{get_or}
use Rattle.buffer.specs.Store.{numbers}
use Rattle.buffer.proofs.Layouts.{LayoutLaws, numbers_laws}
use Rattle.buffer.proofs.Store.{numbers_read}
use Rattle.circuit.specs.Circuit.{circuit}
use Rattle.circuit.specs.Checks.{Checked}
use Rattle.circuit.specs.Machine.{values}
use Rattle.engine.specs.Rules.{read_off}
use Rattle.engine.proofs.Passes.{Gives, gives_read}
use Rattle.machine.specs.Lawful.{lawful}
use Rattle.machine.specs.State.{state}
use Rattle.machine.specs.Staging.{halves}

-- the store that is read off a list of numbers is its state
pub read_state : (l : List ℕ) → read_off numbers l ≡ state l
read_state l i v = get_or l (mul-one v i) 0

module _ {t : List ℕ} {n : ℕ} (table : Checked t n) where
  pub gives_value : {l : List ℕ} {v x : ℕ} → v < n → x ≡ values (circuit t n) (state l) v
      → Gives numbers n (values (circuit t n)) l v x
  gives_value {l} = gives_read numbers_laws (lawful table) (state l) (λ s p. numbers_read p)

pub halves_laws : LayoutLaws halves
halves_laws =
    record {
      size = λ x. refl;
      local = λ k l i j h.
          ap₂ (λ (a b : ℕ). a + 65536 * b) (simp add-zero at (h 0 (omega arith))) (h 1 (omega arith));
    }

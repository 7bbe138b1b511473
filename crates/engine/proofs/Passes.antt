-- The passes over a store in a buffer: values one after another, the wires along their order, and the registers written
-- together; the start of each, a turn, and what it ends in. Over any type of values, layout and rule.
-- Assumes nothing.
use mathlib.Core.Path.{◌≡◌, ap, ◌∙◌}
use mathlib.Core.List.{List}
use Prim.Native.Nat.{ℕ, ◌+◌, ◌*◌, ◌≤◌, ◌<◌}
use native.Mathlib.Numerals.{add-one}
use native.Mathlib.Omega.{arith}
use lib.ListN.{length, get_or}
use Rattle.net.specs.Net.{settle, step}
use Rattle.buffer.specs.Kept.{Kept}
use Rattle.buffer.specs.Store.{Layout, Wrote, Stands, Holds, Moves}
use Rattle.buffer.proofs.Filled.{kept_none}
use Rattle.buffer.proofs.Layouts.{LayoutLaws}
use Rattle.buffer.proofs.Store.{kept_wrote, stands_read, stands_none, stands_more, moves_none, moves_as, moves_wrote}
use Rattle.circuit.specs.Circuit.{Circuit, circuit, graph}
use Rattle.circuit.proofs.Tables.{circuit_length, circuit_inside}
use Rattle.circuit.specs.Checks.{Checked}
use Rattle.schedule.specs.Schedule.{register_list, Ordered}
use Rattle.schedule.proofs.Registers.{register_list_register}
pub use Rattle.engine.specs.Rules.{Lawful}
use Rattle.engine.specs.Rules.{read_off}
use Rattle.engine.proofs.Along.{along, along_settle}
use Rattle.engine.proofs.Together.{together, together_step}

-- x is what the rule gives v, on every store that stands in the buffer
pub record Gives {A : Type 0} (L : Layout A) (n : ℕ) (f : (ℕ → A) → ℕ → A) (l : List ℕ) (v : ℕ) (x : A) : Type 0 where
  pub gives : (s : ℕ → A) → Stands L 0 n s l → x ≡ f s v

-- ---- values one after another, from the first on

-- the first i values of a store stand in front, and what lies past the first n is as it was
pub record Begun {A : Type 0} (L : Layout A) (n : ℕ) (s : ℕ → A) (entry cells : List ℕ) (i : ℕ) : Type 0 where
  pub kept : Kept (n * L.each) entry cells
  pub stands : Stands L 0 i s cells

module _ {A : Type 0} {L : Layout A} {n : ℕ} where
  pub none_begun : {s : ℕ → A} (l : List ℕ) → Begun L n s l l 0
  none_begun {s} l = record { kept = kept_none (n * L.each) l; stands = stands_none 0 s l }

  pub one_begun : LayoutLaws L → {s : ℕ → A} {entry cells cells' : List ℕ} {i k : ℕ} {x : A} → Begun L n s entry cells i
      → i < n → k ≡ i * L.each → x ≡ s i → Wrote L cells cells' k x → Begun L n s entry cells' (i + 1)
  one_begun layout p h e is w =
      record { kept = kept_wrote e h w p.kept; stands = stands_more layout (e ∙ omega arith) is w p.stands }

  pub all_begun : {s : ℕ → A} {entry cells : List ℕ} {i : ℕ} → Begun L n s entry cells i → n ≤ i
      → Holds L n s entry cells
  all_begun p h = record { kept = p.kept; stands = record { cell = λ v l. p.stands.cell v (omega arith) } }

module _ {A : Type 0} {L : Layout A} (layout : LayoutLaws L) {t : List ℕ} {n : ℕ} {f : (ℕ → A) → ℕ → A}
    (laws : Lawful t n f) where
  -- a value that the rule gives on a store that is read off the buffer
  pub gives_read : {l : List ℕ} {v : ℕ} {x : A} (r : ℕ → A)
      → ((s : ℕ → A) → Stands L 0 n s l → (u : ℕ) → u < n → r u ≡ s u) → v < n → x ≡ f r v → Gives L n f l v x
  gives_read {v = v} r reads h e =
      record {
        gives = λ s p.
            e ∙ laws.agree r s (λ u k. reads s p u (omega (arith, circuit_length t n))) v
            (omega (arith, circuit_length t n));
      }

  -- one that the rule gives on the store in front
  pub gives_off : {l : List ℕ} {v : ℕ} {x : A} → v < n → x ≡ f (read_off L l) v → Gives L n f l v x
  gives_off {l} = gives_read (read_off L l) (λ s p. stands_read p)

  -- ---- the wires along their order

  pub none_passed : (order l : List ℕ) → Moves L n (along f order 0) l l
  unfolding along
  none_passed order l = moves_none

  module _ {order entry : List ℕ} (table : Checked t n) (ordered : Ordered (circuit t n) order) where
    pub one_settled : {cells cells' : List ℕ} {i k v : ℕ} {x : A} → Moves L n (along f order i) entry cells
        → i < length order → v ≡ get_or order i 0 → Gives L n f cells v x → k ≡ v * L.each → Wrote L cells cells' k x
        → Moves L n (along f order (i + 1)) entry cells'
    unfolding along
    one_settled {i = i} {v = v} {x} p h e g place wrote =
        moves_wrote layout v p place (omega (arith, (ordered.wires i h).0, circuit_length t n)) wrote
        (λ s q u l. rw (add-one i, along, ← e, g.gives (along f order i s) (p.leads s q)))

    pub all_settled : {cells : List ℕ} {i : ℕ} → Moves L n (along f order i) entry cells → i ≡ length order
        → Moves L n (settle (graph (circuit t n)) f) entry cells
    all_settled p all =
        moves_as p
        (λ s v l.
        ap (λ (j : ℕ). along f order j s v) all
        ∙ along_settle (circuit t n) order ordered f laws.local s (circuit_inside t n table.valid) v
        (omega (arith, circuit_length t n)))

  -- ---- the registers written together

  pub none_committed : (c : Circuit) (l : List ℕ) → Moves L n (together c f 0) l l
  unfolding together
  none_committed c l = moves_none

  pub one_stepped : {entry cells cells' : List ℕ} {j k v : ℕ} {x : A} → Moves L n (together (circuit t n) f j) entry cells
      → j < length (register_list (circuit t n)) → v ≡ get_or (register_list (circuit t n)) j 0 → Gives L n f entry v x
      → k ≡ v * L.each → Wrote L cells cells' k x → Moves L n (together (circuit t n) f (j + 1)) entry cells'
  unfolding together
  one_stepped {j = j} {v = v} p h e g place wrote =
      moves_wrote layout v p place
      (omega (arith, e, (register_list_register (circuit t n) j h).0, circuit_length t n))
      wrote
      (λ s q u l. rw (add-one j, together, ← e, g.gives s q))

  pub all_stepped : {entry cells : List ℕ} {j : ℕ} → Moves L n (together (circuit t n) f j) entry cells
      → j ≡ length (register_list (circuit t n)) → Moves L n (step (graph (circuit t n)) f) entry cells
  all_stepped p all =
      moves_as p
      (λ s v l.
      ap (λ (i : ℕ). together (circuit t n) f i s v) all
      ∙ together_step (circuit t n) f s v (omega (arith, circuit_length t n)))

-- That values written as the numbers of a layout stand where they were written.
-- Assumes nothing.
use mathlib.Core.Path.{◌≡◌, refl, sym, ap, ◌∙◌}
use mathlib.Core.Logic.{◌⊎◌, inl, inr}
use mathlib.Core.List.{List, [], ◌∷◌, ◌++◌, append_assoc}
use Prim.Native.Nat.{ℕ, suc, ◌+◌, ◌*◌, ◌<◌, ◌≤◌}
use native.Mathlib.Nat.{mul-le-mul_right, suc-mul, zero-add, add-zero}
use native.Mathlib.Numerals.{add-one}
use native.Mathlib.Omega.{arith}
use lib.ListN.{length, get_or, set, take, drop, get_or-append}
use lib.Seq.{sets, sets-eq, length-take-le, get_or-append-add}
use Rattle.buffer.specs.Kept.{KeptOutside}
use Rattle.net.proofs.Cases.{by_le}
use Rattle.buffer.proofs.Filled.{outside_none, outside_set}
pub use Rattle.buffer.specs.Store.{LayoutLaws}
use Rattle.buffer.specs.Store.{Layout, numbers, Wrote}

-- two values' places do not meet
pub apart : (each u v m : ℕ) → m < each → (u ≡ v → ⊥) → (u * each + m < v * each) ⊎ (v * each + each ≤ u * each + m)
apart each u v m h ne =
    by_le v u
    (λ l. inr (omega (arith, mul-le-mul_right {m = v + 1} {n = u} each (omega arith), next v)))
    (λ l. inl (omega (arith, mul-le-mul_right {m = u + 1} {n = v} each (omega arith), next u)))
  where
    next : (x : ℕ) → (x + 1) * each ≡ x * each + each
    next x = rw (add-one x) (suc-mul x each)

-- the numbers that are written one after another
module _ (l vs : List ℕ) (i : ℕ) (room : i + length vs ≤ length l) where
  abbrev front : ℕ
  front = length (take i l)

  front_is : front ≡ i
  front_is = length-take-le i l (omega arith)

  sets_at : (m : ℕ) → m < length vs → get_or (sets l i vs) (i + m) 0 ≡ get_or vs m 0
  sets_at m h =
      ap (λ (x : List ℕ). get_or x (i + m) 0) (sets-eq vs l i room)
      ∙ ap (λ (k : ℕ). get_or (take i l ++ vs ++ drop (i + length vs) l) (k + m) 0) (sym front_is)
      ∙ ap (λ (x : List ℕ). get_or x (front + m) 0) (append_assoc (take i l) vs (drop (i + length vs) l))
      ∙ get_or-append-add (take i l) (vs ++ drop (i + length vs) l) m 0
      ∙ get_or-append vs (drop (i + length vs) l) 0 m h

  sets_kept : KeptOutside i (i + length vs) l (sets l i vs)
  sets_kept = many l vs i (outside_none i (i + length vs) l) (omega arith) (omega arith)
    where
      many : (now ws : List ℕ) (j : ℕ) → KeptOutside i (i + length vs) l now → i ≤ j → j + length ws ≤ i + length vs
          → KeptOutside i (i + length vs) l (sets now j ws)
      many now [] j p low high = p
      many now (x ∷ ws) j p low high =
          many (set now j x) ws (suc j) (outside_set j x low (omega arith) p) (omega arith) (omega arith)

module _ {A : Type 0} {L : Layout A} (layout : LayoutLaws L) where
  -- a value whose numbers read as it
  pub wrote_sets : (l : List ℕ) (i : ℕ) (x : A) → L.at (L.image x) 0 ≡ x → i + L.each ≤ length l
      → Wrote L l (sets l i (L.image x)) i x
  wrote_sets l i x fits room =
      record {
        kept = rw (layout.size x) at (sets_kept l (L.image x) i fitting);
        cell = record {
          stands = here;
          reads =
              layout.local (sets l i (L.image x)) (L.image x) i 0
              (λ m h. here m h ∙ ap (λ (k : ℕ). get_or (L.image x) k 0) (sym (zero-add m)))
              ∙ fits;
        };
      }
    where
      fitting : i + length (L.image x) ≤ length l
      fitting = omega (arith, layout.size x)

      here : (m : ℕ) → m < L.each → get_or (sets l i (L.image x)) (i + m) 0 ≡ get_or (L.image x) m 0
      here m h = sets_at l (L.image x) i fitting m (omega (arith, layout.size x))

-- ---- a number as itself

pub numbers_laws : LayoutLaws numbers
numbers_laws = record { size = λ x. refl; local = λ k l i j h. simp add-zero at (h 0 (omega arith)) }

pub wrote_number : (l : List ℕ) (i x : ℕ) → i < length l → Wrote numbers l (set l i x) i x
wrote_number l i x h = wrote_sets numbers_laws l i x refl (omega arith)

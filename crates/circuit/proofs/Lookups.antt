-- Reading a byte by its place in a list: what is read is what stands there, and nothing is read past the end.
-- Assumes nothing.
use Rattle.std.proofs.Common.{◌≡◌, ℕ, zero, suc, ◌<◌, ◌≤◌, List, [], ◌∷◌, map, length, get_or, sym, refl, ap, ◌∙◌, zero-le, arith}
use lib.ListN.{get_or-map}
use Rattle.net.specs.Net.{list_below}
use Rattle.net.proofs.Lists.{get_or_list_below}
use Rattle.circuit.specs.declared.operator.Operator.{Operator}
use Rattle.circuit.specs.declared.operator.Operator.TheVariants.{ShiftRight}
use Rattle.std.specs.Prelude.{Some, None}
use Rattle.circuit.specs.declared.record.Kind.{Kind}
use Rattle.circuit.specs.declared.record.Kind.TheVariants as kind
use Rattle.std.specs.Prelude.{Some, None}
use Rattle.circuit.specs.declared.record.InputKind.{InputKind}
use Rattle.circuit.specs.declared.record.InputKind.TheVariants.{Secret}
use Rattle.std.specs.Prelude.{Some, None}
use Rattle.circuit.specs.Operator.{operators, operator_of, read_operator}
use Rattle.circuit.specs.Reading.{kinds, kind_number, read_kind, input_kinds, input_kind_of, read_input}

-- `is` and `none` are the two cases of what a byte reads as
module _ {A B : Type 0} (is : A → B) (none : B) (same : (x y : A) → is x ≡ is y → x ≡ y)
    (differ : (x : A) → is x ≡ none → ⊥) where
  lookup_is : (l : List A) (i : ℕ) (d x : A) → get_or (map is l) i none ≡ is x → (i < length l) × (get_or l i d ≡ x)
  lookup_is [] i d x e = absurd (differ x (sym e))
  lookup_is (y ∷ ys) zero d x e = (omega arith, same y x e)
  lookup_is (y ∷ ys) (suc i) d x e = let (h, q) = lookup_is ys i d x e in (omega arith, q)

  lookup_none : (l : List A) (i : ℕ) (d : A) → get_or (map is l) i none ≡ none → (length l ≤ i) × (get_or l i d ≡ d)
  lookup_none [] i d e = (zero-le, refl)
  lookup_none (y ∷ ys) zero d e = absurd (differ y e)
  lookup_none (y ∷ ys) (suc i) d e = let (h, q) = lookup_none ys i d e in (omega arith, q)

-- what stands at a place of a list in the order of its members' numbers has that number
pub in_order : {A : Type 0} (number : A → ℕ) (l : List A) (i : ℕ) (d : A)
    → map number l ≡ list_below (λ k. k) (length l) → i < length l → number (get_or l i d) ≡ i
in_order number l i d e h =
    sym (get_or-map number l i d)
    ∙ ap (λ (ns : List ℕ). get_or ns i (number d)) e
    ∙ get_or_list_below (λ k. k) (length l) i (number d) h

-- ---- operators

module _ (code : ℕ) where
  operator_same : (x y : Operator) → Some x ≡ Some y → x ≡ y
  operator_same x y e = cc

  operator_differ : (x : Operator) → Some x ≡ None → ⊥
  operator_differ x e = let z : ◌≡◌ {A = ℕ} 0 1 = cc in omega arith

  pub operator_is : (op : Operator) → read_operator code ≡ Some op → (code < 9) × (operator_of code ≡ op)
  operator_is op e =
      lookup_is Some None operator_same operator_differ operators code ShiftRight op e

  pub operator_none : read_operator code ≡ None → (9 ≤ code) × (operator_of code ≡ ShiftRight)
  operator_none e =
      lookup_none Some None operator_same operator_differ operators code ShiftRight e

-- ---- kinds of input

module _ (code n : ℕ) where
  input_same : (x y : InputKind) → Some x ≡ Some y → x ≡ y
  input_same x y e = cc

  input_differ : (x : InputKind) → Some x ≡ None → ⊥
  input_differ x e = let z : ◌≡◌ {A = ℕ} 0 1 = cc in omega arith

  pub input_is : (k : InputKind) → read_input code n ≡ Some k → (code < 3) × (input_kind_of code n ≡ k)
  input_is k e = lookup_is Some None input_same input_differ (input_kinds n) code Secret k e

  pub input_none : read_input code n ≡ None → (3 ≤ code) × (input_kind_of code n ≡ Secret)
  input_none e = lookup_none Some None input_same input_differ (input_kinds n) code Secret e

-- ---- kinds

module _ (byte : ℕ) where
  kind_same : (x y : Kind) → Some x ≡ Some y → x ≡ y
  kind_same x y e = cc

  kind_differ : (x : Kind) → Some x ≡ None → ⊥
  kind_differ x e = let z : ◌≡◌ {A = ℕ} 0 1 = cc in omega arith

  pub kind_none : read_kind byte ≡ None → 6 ≤ byte
  kind_none e = (lookup_none Some None kind_same kind_differ kinds byte kind.Enabled e).0

pub kind_is : (byte : ℕ) (k : Kind) → read_kind byte ≡ Some k → (byte ≤ 5) × (kind_number k ≡ byte)
unfolding list_below
kind_is byte k e =
    let (h, q) =
    lookup_is Some None (kind_same byte) (kind_differ byte) kinds byte kind.Enabled k e in
    (omega arith, ap kind_number (sym q) ∙ in_order kind_number kinds byte kind.Enabled refl h)

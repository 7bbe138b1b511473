-- Three numbers put in order by comparing two of them at a time; of fewer, some stand more than once.
-- Assumes nothing.
use mathlib.Core.Path.{◌≡◌, refl, ap, ◌∙◌}
use mathlib.Core.Bool.{Bool, true, false, ◌||◌}
use mathlib.Core.List.{List, [], ◌∷◌}
use Prim.Native.Nat.{ℕ, zero, suc, ◌+◌, ◌≤◌, ◌<◌, min, max}
use native.Mathlib.Omega.{arith}
use native.Mathlib.Nat.{le_refl}
use lib.Dec.{eqb}
use lib.ListN.{get_or}
use Rattle.net.specs.Tests.{member}
use Rattle.net.proofs.Cases.{by_le}
use Rattle.path.specs.Uses.{Sorted}

-- ---- numbers of a list

-- the order of two does not matter
swapped : (x y : ℕ) (l : List ℕ) (u : ℕ) → member u (x ∷ y ∷ l) ≡ member u (y ∷ x ∷ l)
unfolding member
swapped x y l u = go (eqb u x) (eqb u y) (member u l)
  where
    go : (a b c : Bool) → (a || (b || c)) ≡ (b || (a || c))
    go true true c = refl
    go true false c = refl
    go false true c = refl
    go false false c = refl

-- nor does it matter whether one stands twice
twice : (x : ℕ) (l : List ℕ) (u : ℕ) → member u (x ∷ x ∷ l) ≡ member u (x ∷ l)
unfolding member
twice x l u = go (eqb u x) (member u l)
  where
    go : (a b : Bool) → (a || (a || b)) ≡ (a || b)
    go true b = refl
    go false true = refl
    go false false = refl

before : (x : ℕ) (l k : List ℕ) (u : ℕ) → member u l ≡ member u k → member u (x ∷ l) ≡ member u (x ∷ k)
unfolding member
before x l k u e = ap (λ (b : Bool). eqb u x || b) e

-- two in order are the two
compared : (x y : ℕ) (l : List ℕ) (u : ℕ) → member u (min x y ∷ max x y ∷ l) ≡ member u (x ∷ y ∷ l)
compared x y l u =
    by_le x y
    (λ h. let low : min x y ≡ x = omega arith in let high : max x y ≡ y = omega arith in rw (low, high))
    (λ h.
    let low : min x y ≡ y = omega arith in
    let high : max x y ≡ x = omega arith in
    rw (low, high) (swapped y x l u))

ascending : (x y z : ℕ) → x ≤ y → y ≤ z → (i : ℕ) → i + 1 < 3
    → get_or (x ∷ y ∷ z ∷ []) i 0 ≤ get_or (x ∷ y ∷ z ∷ []) (i + 1) 0
ascending x y z h k zero l = h
ascending x y z h k (suc zero) l = k
ascending x y z h k (suc (suc i)) l = absurd (omega arith)

-- ---- three, two and one

pub sorted_three : (a b c : ℕ) → let p = min b c in let q = max b c in let r = max a p in
    Sorted (a ∷ b ∷ c ∷ []) (min a p ∷ min r q ∷ max r q ∷ [])
sorted_three a b c =
    let p = min b c in
    let q = max b c in
    let r = max a p in
    record {
      three = refl;
      ascends = ascending (min a p) (min r q) (max r q) (omega arith) (omega arith);
      members = λ u.
          before (min a p) _ _ u (compared r q [] u) ∙ compared a p (q ∷ []) u ∙ before a _ _ u (compared b c [] u);
    }

pub sorted_two : {a b : ℕ} {r : List ℕ} → Sorted (a ∷ b ∷ b ∷ []) r → Sorted (a ∷ b ∷ []) r
sorted_two {a} {b} s =
    record { three = s.three; ascends = s.ascends; members = λ u. s.members u ∙ before a _ _ u (twice b [] u) }

pub sorted_one : (a : ℕ) → Sorted (a ∷ []) (a ∷ a ∷ a ∷ [])
sorted_one a =
    record {
      three = refl;
      ascends = ascending a a a (le_refl _) (le_refl _);
      members = λ u. twice a (a ∷ []) u ∙ twice a [] u;
    }

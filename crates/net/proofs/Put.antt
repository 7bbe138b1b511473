-- A store with one variable changed.
-- Assumes nothing.
use mathlib.Core.Path.{◌≡◌, refl}
use Prim.Native.Nat.{ℕ}
use borrow.Author.Tests.{eq-eqb, ne_eqb}
use Rattle.net.specs.Net.{put}

module _ {A : Type 0} where
  pub put_same : (s : ℕ → A) (i : ℕ) (x : A) → put s i x i ≡ x
  unfolding put
  put_same s i x = rw (eq-eqb i i refl, put)

  pub put_other : (s : ℕ → A) (i : ℕ) (x : A) (v : ℕ) → (v ≡ i → ⊥) → put s i x v ≡ s v
  unfolding put
  put_other s i x v h = rw (ne_eqb v i h, put)

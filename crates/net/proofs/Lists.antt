-- The values of the variables below a bound, as a list.
-- Assumes nothing.
use mathlib.Core.Path.{◌≡◌, refl, ap}
use Prim.Native.Nat.{ℕ, zero, suc, ◌<◌}
use native.Mathlib.Nat.{not-suc-le-zero, le_of_suc-le-suc}
use lib.ListN.{length, get_or}
use Rattle.net.specs.Net.{list_below}

module _ {A : Type 0} where
  pub length_list_below : (s : ℕ → A) (n : ℕ) → length (list_below s n) ≡ n
  unfolding list_below
  length_list_below s zero = refl
  length_list_below s (suc n) = ap suc (length_list_below (λ v. s (suc v)) n)

  pub get_or_list_below : (s : ℕ → A) (n i : ℕ) (d : A) → i < n → get_or (list_below s n) i d ≡ s i
  unfolding list_below
  get_or_list_below s zero i d h = absurd (not-suc-le-zero h)
  get_or_list_below s (suc n) zero d h = refl
  get_or_list_below s (suc n) (suc i) d h = get_or_list_below (λ v. s (suc v)) n i d (le_of_suc-le-suc h)

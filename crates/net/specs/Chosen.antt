-- The numbers below a bound that pass a test, in order, and the place of each among them.
-- Assumes nothing.
use Rattle.std.specs.Prelude.{Bool, true, false, List, [], ◌∷◌, ◌++◌, ℕ, zero, suc}

-- the numbers below n that pass
unfoldable pub chosen : (ℕ → Bool) → ℕ → List ℕ
chosen p zero = []
chosen p (suc n) = elim (p n) [ true ↦ chosen p n ++ (n ∷ []) | false ↦ chosen p n ]

-- how many numbers below n pass: the place of n among those that do, if it does
unfoldable pub place_of : (ℕ → Bool) → ℕ → ℕ
place_of p zero = zero
place_of p (suc n) = elim (p n) [ true ↦ suc (place_of p n) | false ↦ place_of p n ]

-- Request S-8's row, computed: the lowest of the shortest, found by trying one number of variables after the other.
-- Assumes nothing.
use Rattle.std.specs.Prelude.{Bool, cond, ◌&&◌, length}
use Rattle.std.proofs.Math.Bool.{true, false}
use mathlib.Core.List.{List, [], ◌∷◌}
use Prim.Native.Nat.{ℕ, zero, suc, min}
use Rattle.std.proofs.Math.Dec.{ltb}
use Rattle.circuit.specs.Circuit.{Circuit, record_of}
use Rattle.fact.specs.declared.Fact.{Fact}
use Rattle.path.specs.Row.{uses_under, is_marked, secret}

-- the numbers of a list that pass the test
unfoldable pub passing : (ℕ → Bool) → List ℕ → List ℕ
passing p [] = []
passing p (x ∷ xs) = cond (p x) (x ∷ passing p xs) (passing p xs)

-- the lowest number of a list; 0 of none
abbrev pub lowest : List ℕ → ℕ
lowest [] = 0
lowest (x ∷ []) = x
lowest (x ∷ y ∷ ys) = min x (lowest (y ∷ ys))

module _ (c : Circuit) (s : ℕ → Fact) where
  -- v is a marked variable of the circuit
  abbrev pub marked_in : ℕ → Bool
  marked_in v = ltb v (length c) && is_marked (s v)

  -- there is a row of k + 1 variables from v: v is marked, and a secret input or with a use that has one of k
  unfoldable pub has_row : ℕ → ℕ → Bool
  unfolding passing
  has_row zero v = marked_in v && secret c v
  has_row (suc k) v =
      elim (marked_in v) [
        | true ↦ ltb 0 (length (passing (has_row k) (uses_under s (record_of c v))))
        | false ↦ false
      ]

  -- the lowest row of k + 1 variables from v: v, and then that of the lowest use that has one of k
  unfoldable pub lowest_row : ℕ → ℕ → List ℕ
  unfolding passing has_row
  lowest_row zero v = v ∷ []
  lowest_row (suc k) v = v ∷ lowest_row k (lowest (passing (has_row k) (uses_under s (record_of c v))))

  -- the lowest row of the fewest variables from v, from k + 1 to k + limit + 1 of them; none where there is no row
  unfoldable pub path_from : ℕ → ℕ → ℕ → List ℕ
  unfolding lowest_row
  path_from zero k v = elim (has_row k v) [ true ↦ lowest_row k v | false ↦ [] ]
  path_from (suc limit) k v = elim (has_row k v) [ true ↦ lowest_row k v | false ↦ path_from limit (suc k) v ]

  -- v's path, where it has at most limit + 1 variables; none where there is no such row
  unfoldable pub path_within : ℕ → ℕ → List ℕ
  unfolding path_from
  path_within limit v = path_from limit 0 v

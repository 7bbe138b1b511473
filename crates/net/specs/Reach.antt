-- What some variables of a net reach through uses in any number of steps. A set of its variables is a list of Bools,
-- one a variable in order, so that each step over it is computed once.
-- Assumes nothing.
use Rattle.std.specs.Prelude.{Bool, false, ◌&&◌, ◌||◌, List, T, get_or}
use Prim.Native.Nat.{ℕ, zero, suc, ◌<◌}
use Rattle.net.specs.Tests.{any_below, member}
use Rattle.net.specs.Net.{Graph, list_below}
use Rattle.net.specs.Loop.{Uses}

-- v is in the set
abbrev pub is_in : List Bool → ℕ → Bool
is_in set v = get_or set v false

module _ (g : Graph) where
  -- what is in the set, and what a variable in it uses
  unfoldable pub spread : List Bool → List Bool
  unfolding list_below any_below member
  spread set = list_below (λ v. is_in set v || any_below (λ u. is_in set u && member v (g.uses u)) g.size) g.size

  -- the set after k steps
  unfoldable pub spreads : ℕ → List Bool → List Bool
  unfolding spread
  spreads zero set = set
  spreads (suc k) set = spread (spreads k set)

  -- the kept variables, and what they reach: as many steps as there are variables are enough
  unfoldable pub reached_set : List ℕ → List Bool
  unfolding spreads list_below member
  reached_set kept = spreads g.size (list_below (λ v. member v kept) g.size)

  -- a property of variables has the kept ones and is closed under uses
  pub record ClosedUnderUses (kept : List ℕ) (P : ℕ → Type 0) : Type 0 where
    pub has : (v : ℕ) → v < g.size → T (member v kept) → P v
    pub closed : (v u : ℕ) → v < g.size → P v → u < g.size → Uses g v u → P u

-- Rounds on a small net, by computation: two registers in a row, the second fed by the first.
-- A register that saw another's new value would need one round for both; the round that changes nothing isn't counted.
-- Assumes nothing.
use Rattle.std.specs.Prelude.{◌≡◌, refl, Bool, true, false, List, [], ◌∷◌, ℕ, zero, suc}
use Rattle.std.specs.Bool.{beq}
use Rattle.net.specs.Net.{Graph, register, list_below, after, count}

abbrev fed_by : ℕ → List ℕ
fed_by zero = []
fed_by (suc v) = v ∷ []

abbrev row : Graph
row = record { size = 2; role = λ v. register; uses = fed_by }

-- variable 0 gets true, variable v + 1 what v holds
abbrev shift : (ℕ → Bool) → ℕ → Bool
shift s zero = true
shift s (suc v) = s v

abbrev cleared : ℕ → Bool
cleared v = false

pub registers_move_together : list_below (after row shift 1 cleared) 2 ≡ true ∷ false ∷ []
unfolding list_below after
registers_move_together = refl

pub last_round_not_counted : count row shift beq 9 cleared ≡ 2
unfolding count
last_round_not_counted = refl

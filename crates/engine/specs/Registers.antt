-- The registers of a circuit under a rule, in the order in which they are listed.
-- Assumes nothing.
use Rattle.std.specs.Prelude.{Bool, ℕ, get_or}
use Rattle.circuit.specs.Circuit.{Circuit}
use Rattle.schedule.specs.Schedule.{register_list}

module _ {A : Type 0} (c : Circuit) (f : (ℕ → A) → ℕ → A) where
  -- what the rule gives register j
  abbrev pub next_of : (ℕ → A) → ℕ → A
  next_of s j = f s (get_or (register_list c) j 0)

  -- whether register j stays as it is, by a test of sameness
  abbrev pub stays_at : (A → A → Bool) → (ℕ → A) → ℕ → Bool
  stays_at same s j = same (next_of s j) (s (get_or (register_list c) j 0))

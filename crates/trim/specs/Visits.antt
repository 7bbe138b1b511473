-- What a search has visited: in front of the scratch stands one flag a variable, 0 for one that is not visited; behind
-- the flags, from place n on, the stack of the visited ones whose uses are not visited yet. For the search's contracts.
-- Assumes nothing.
use Rattle.std.specs.Prelude.{◌≡◌, ◌⊎◌, Bool, List, ℕ, ◌+◌, ◌≤◌, ◌<◌, T, length, get_or, set}
use Rattle.net.specs.Tests.{member}
use Rattle.net.specs.Loop.{Uses}
use Rattle.net.specs.Reach.{is_in, reached_set}
use Rattle.buffer.specs.Kept.{Kept}
use Rattle.circuit.specs.Circuit.{Circuit, graph}
use Rattle.schedule.specs.Walk.{count_visited}

-- v is visited
abbrev pub Visited : List ℕ → ℕ → Type 0
Visited s v = 0 < get_or s v 0

-- how many are visited
abbrev pub visited_count : List ℕ → ℕ → ℕ
visited_count s n = count_visited (λ v. get_or s v 0) n

-- u was visited and nothing changes, or it is visited now and put on the stack; r wait there
abbrev pub VisitedOne : ℕ → ℕ → List ℕ → ℕ → List ℕ → ℕ → Type 0
VisitedOne n u entry waiting exit r =
    (Visited entry u × (exit ≡ entry) × (r ≡ waiting))
    ⊎ ((get_or entry u 0 ≡ 0) × (exit ≡ set (set entry u 1) (n + waiting) u) × (r ≡ waiting + 1))

-- `waiting` visited variables are on the stack; of every other visited one, but for x, all uses are visited
pub record Visiting (c : Circuit) (n : ℕ) (s : List ℕ) (waiting x : ℕ) : Type 0 where
  pub lent : n + n ≤ length s
  pub few : waiting ≤ visited_count s n
  pub stacked : (j : ℕ) → j < waiting → (get_or s (n + j) 0 < n) × Visited s (get_or s (n + j) 0)
  pub closed : (v : ℕ) → v < n → Visited s v → (v ≡ x → ⊥)
      → ((j : ℕ) × (j < waiting) × (get_or s (n + j) 0 ≡ v)) ⊎ ((u : ℕ) → Uses (graph c) v u → Visited s u)

-- the set has what each of its variables uses
abbrev pub ClosedSet : Circuit → ℕ → (ℕ → Bool) → Type 0
ClosedSet c n set = (v u : ℕ) → v < n → T (set v) → Uses (graph c) v u → T (set u)

-- the set has every visited variable
abbrev pub HasVisited : List ℕ → ℕ → (ℕ → Bool) → Type 0
HasVisited s n set = (v : ℕ) → v < n → Visited s v → T (set v)

-- what was visited is, and all that is visited now lies in every closed set that has what was; what lies past the stack
-- is as it was
pub record Spread (c : Circuit) (n : ℕ) (entry exit : List ℕ) : Type 0 where
  pub kept : Kept (n + n) entry exit
  pub grows : (v : ℕ) → v < n → Visited entry v → Visited exit v
  pub within : (set : ℕ → Bool) → ClosedSet c n set → HasVisited entry n set → HasVisited exit n set

-- every use is a variable
abbrev pub InsideOf : Circuit → ℕ → Type 0
InsideOf c n = (v u : ℕ) → v < n → Uses (graph c) v u → u < n

-- the first i kept variables are visited, none is that is not kept, and all of them wait, whatever they use
pub record KeptVisited (n : ℕ) (kept : List ℕ) (i : ℕ) (entry exit : List ℕ) (waiting : ℕ) : Type 0 where
  pub outside : Kept (n + n) entry exit
  pub visiting : (c : Circuit) → InsideOf c n → Visiting c n exit waiting n
  pub visited : (j : ℕ) → j < i → Visited exit (get_or kept j 0)
  pub alone : (v : ℕ) → v < n → Visited exit v → T (member v kept)

-- what is visited is what the kept variables reach
pub record VisitsReached (c : Circuit) (kept : List ℕ) (n : ℕ) (s : List ℕ) : Type 0 where
  pub sound : (v : ℕ) → v < n → Visited s v → T (is_in (reached_set (graph c) kept) v)
  pub whole : (v : ℕ) → v < n → T (is_in (reached_set (graph c) kept) v) → Visited s v

-- The breadth-first search for a secret input, as it stands in the scratch behind the facts: the queue of the variables
-- found, for each the place in the queue of the one that it was found from, and for each variable one more than its own
-- place, or 0. For contracts of what works on them.
-- Assumes nothing.
use Rattle.std.specs.Prelude.{◌≡◌, ◌⊎◌, not, List, [], ◌∷◌, ◌++◌, ℕ, zero, suc, ◌+◌, ◌*◌, ◌≤◌, ◌<◌, T, length, get_or, set}
use Rattle.buffer.specs.Store.{Stands}
use Rattle.circuit.specs.Circuit.{Circuit, NoLoop}
use Rattle.circuit.specs.declared.table.Table.{Table}
use Rattle.circuit.specs.Tables.{circuit_of}
use Rattle.fact.specs.declared.Fact.{Fact}
use Rattle.fact.specs.declared.Fact.TheVariants.{Marked}
use Rattle.fact.specs.Fact.{fact_byte}
use Rattle.fact.specs.Certificate.{certificate}
use Rattle.schedule.specs.Walk.{count_visited}
use Rattle.analysis.specs.Cells.{words, room}
use Rattle.path.specs.Row.{secret, Under}

-- the facts of a table's certificate
abbrev pub facts : Table → ℕ → Fact
facts t = certificate (circuit_of t)

-- they stand in front of the scratch, of a table without a loop
pub record FactsStand (t : Table) (s : List ℕ) : Type 0 where
  pub no_loop : NoLoop (circuit_of t)
  pub lent : t.records * room ≤ length s
  pub stand : Stands words 0 t.records (facts t) s

-- the variable at place i of the queue
abbrev pub queued : ℕ → List ℕ → ℕ → ℕ
queued n s i = get_or s (n * 3 + i) 0

-- the place of the one that it was found from
abbrev pub parent : ℕ → List ℕ → ℕ → ℕ
parent n s i = get_or s (n * 4 + i) 0

-- one more than variable u's place in the queue, 0 where it has none
abbrev pub found : ℕ → List ℕ → ℕ → ℕ
found n s u = get_or s (n * 5 + u) 0

-- A queue q of `tail` variables of n, with their parents p and one more than their places f. Those before `head` are
-- done: no secret input is among them, and each marked variable that they use was found, from there or before. From the
-- one at `head` none above `bound` was found. The places ascend with the parents, and where these are the same with the
-- variables.
pub record Queue (c : Circuit) (facts : ℕ → Fact) (n : ℕ) (q p f : ℕ → ℕ) (head tail bound : ℕ) : Type 0 where
  pub some : 0 < tail
  pub count : count_visited f n ≡ tail
  pub variables : (i : ℕ) → i < tail → (q i < n) × (facts (q i) ≡ Marked) × (f (q i) ≡ i + 1)
  pub places : (u : ℕ) → u < n → 0 < f u → (i : ℕ) × (i < tail) × (q i ≡ u)
  pub linked : (i : ℕ) → 0 < i → i < tail → (p i < i) × Under c facts (q (p i)) (q i)
  pub parents : (i : ℕ) → 0 < i → i < tail → (p i < head) ⊎ ((p i ≡ head) × (q i ≤ bound))
  pub ascends : (i : ℕ) → 0 < i → i + 1 < tail → (p i < p (i + 1)) ⊎ ((p i ≡ p (i + 1)) × (q i < q (i + 1)))
  pub passed : (h : ℕ) → h < head → T (not (secret c (q h)))
  pub done : (h : ℕ) → h < head → (u : ℕ) → Under c facts (q h) u → facts u ≡ Marked
      → (i : ℕ) × (i < tail) × (q i ≡ u) × ((i ≡ 0) ⊎ (p i ≤ h))

-- how many steps place i of a queue with the parents p is from its beginning
pub data Depth (p : ℕ → ℕ) : ℕ → ℕ → Type 0 where
  root : Depth p 0 0
  below : {i d : ℕ} → 0 < i → Depth p (p i) d → Depth p i (suc d)

-- the variables of the queue on the way of d steps to place i
unfoldable pub chain : (ℕ → ℕ) → (ℕ → ℕ) → ℕ → ℕ → List ℕ
chain q p zero i = q i ∷ []
chain q p (suc d) i = chain q p d (p i) ++ (q i ∷ [])

-- a search of a table's marked variables under way
pub record Searching (t : Table) (s : List ℕ) (head tail bound : ℕ) : Type 0 where
  pub facts_stand : FactsStand t s
  pub queue : Queue (circuit_of t) (facts t) t.records (queued t.records s) (parent t.records s) (found t.records s)
      head tail bound

-- byte 0 of u's fact says that it is marked, and it is not found yet
abbrev pub Unfound : ℕ → ℕ → List ℕ → Type 0
Unfound n u s = (get_or s (u * 3) 0 ≡ fact_byte Marked) × (found n s u ≡ 0)

-- u stands at the end of the queue now, found from the one at `head`, if it was unfound; else nothing changes
abbrev pub VisitedOne : ℕ → ℕ → ℕ → List ℕ → ℕ → List ℕ → ℕ → Type 0
VisitedOne n head u entry tail exit r =
    ((Unfound n u entry → ⊥) × (exit ≡ entry) × (r ≡ tail))
    ⊎ (Unfound n u entry
    × (exit ≡ set (set (set entry (n * 3 + tail) u) (n * 4 + tail) head) (n * 5 + u) (tail + 1))
    × (r ≡ tail + 1))

-- the queue, which begins at v, has its first secret input at place i
pub record Found (t : Table) (v : ℕ) (s : List ℕ) (i : ℕ) : Type 0 where
  pub tail : ℕ
  pub searching : Searching t s i tail 0
  pub begins : queued t.records s 0 ≡ v
  pub within : i < tail
  pub is_secret_lem : T (secret (circuit_of t) (queued t.records s i))

-- every place up to `at` but the first has its parent before it
abbrev pub Falls : ℕ → List ℕ → ℕ → Type 0
Falls n s at = (i : ℕ) → 0 < i → i ≤ at → parent n s i < i

-- The depth-first walk along the uses of wires: its invariant, what one step does to it and how it ends. For the
-- contracts of private functions. The first n numbers of the scratch are slots: the finished wires from the front, and
-- the stack from its top up to n. The next n numbers are states: 0 for a variable that is unvisited, `finished_state`
-- for a wire that is finished, and for a wire on the stack one more than the number of its uses that are done.
-- Assumes nothing.
use Rattle.std.specs.Prelude.{◌≡◌, List, ℕ, zero, suc, ◌+◌, ◌≤◌, ◌<◌, length, get_or, take}
use Rattle.net.specs.Net.{sum_below}
use Rattle.net.specs.Loop.{Uses}
use Rattle.circuit.specs.Record.{uses, wire_uses}
use Rattle.circuit.specs.Circuit.{Circuit, record_of, graph}
use Rattle.circuit.specs.declared.table.Table.{Table}
use Rattle.circuit.specs.Tables.{circuit_of}
use Rattle.schedule.specs.declared.walk.Walk.{Walk}
use Rattle.schedule.specs.declared.walk.NextUse.{NextUse}
use Rattle.schedule.specs.declared.walk.NextUse.TheVariants as next_use
use Rattle.schedule.specs.Schedule.{Ordered, register_list}
use Rattle.buffer.specs.Kept.{Kept}

-- the state of a finished wire, above that of every wire on the stack
abbrev pub finished_state : ℕ
finished_state = 5

-- the state of a wire in which all its uses are done; 0 for what is no wire
unfoldable pub last : Circuit → ℕ → ℕ
last c v = wire_uses (record_of c v)

-- variable k, counted from 0, of those that v uses
unfoldable pub used : Circuit → ℕ → ℕ → ℕ
used c v k = get_or (uses (record_of c v)) k 0

-- 0 for 0, 1 for every other number
abbrev pub sign : ℕ → ℕ
sign zero = 0
sign (suc x) = 1

-- how many variables have been visited
abbrev pub count_visited : (ℕ → ℕ) → ℕ → ℕ
count_visited state n = sum_below (λ v. sign (state v)) n

-- The invariant. The variables below `root` were tried as roots. The slots below `finished` hold the finished wires,
-- and those from `top` up to n the stack, whose top is at `top`. `place` says where a visited variable stands.
pub record Invariant (c : Circuit) (n : ℕ) (slot state : ℕ → ℕ) (root finished top : ℕ) : Type 0 where
  pub place : ℕ → ℕ
  pub root_most : root ≤ n
  pub apart : finished ≤ top
  pub top_most : top ≤ n
  pub count : finished + n ≡ top + count_visited state n
  pub finished_at : (i : ℕ) → i < finished
      → (slot i < n) × (0 < last c (slot i)) × (state (slot i) ≡ finished_state) × (place (slot i) ≡ i)
  pub stacked_at : (i : ℕ) → top ≤ i → i < n
      → (slot i < n) × (0 < state (slot i)) × (state (slot i) ≤ last c (slot i)) × (place (slot i) ≡ i)
  pub state_most : (v : ℕ) → v < n → state v ≤ finished_state
  pub finished_is : (v : ℕ) → v < n → state v ≡ finished_state → (place v < finished) × (slot (place v) ≡ v)
  pub stacked_is : (v : ℕ) → v < n → 0 < state v → state v < finished_state
      → (top ≤ place v) × (place v < n) × (slot (place v) ≡ v)
  pub after : (i k : ℕ) → i < finished → k + 1 < last c (slot i) → 0 < last c (used c (slot i) k)
      → (state (used c (slot i) k) ≡ finished_state) × (place (used c (slot i) k) < i)
  pub done : (i k : ℕ) → top ≤ i → i < n → k + 1 < state (slot i) → 0 < last c (used c (slot i) k)
      → state (used c (slot i) k) ≡ finished_state
  pub chain : (i : ℕ) → top ≤ i → i + 1 < n → Uses (graph c) (slot (i + 1)) (slot i)
  pub waiting : (i : ℕ) → top < i → i < n → state (slot i) < last c (slot i)
  pub tried : (v : ℕ) → v < root → 0 < last c v → 0 < state v

-- ---- the walk in the scratch

-- number i of the slots
abbrev pub slot_of : List ℕ → ℕ → ℕ
slot_of s i = get_or s i 0

-- the state of variable v
abbrev pub state_of : ℕ → List ℕ → ℕ → ℕ
state_of n s v = get_or s (n + v) 0

-- the walk over a checked table is at w
pub record Walking (t : Table) (s : List ℕ) (w : Walk) : Type 0 where
  pub lent : t.records + t.records ≤ length s
  pub invariant : Invariant (circuit_of t) t.records (slot_of s) (state_of t.records s) w.root w.finished w.top

-- a step leads from one state of the walk to one that is nearer to its end
pub record Progress (t : Table) (entry : List ℕ) (w₀ : Walk) (exit : List ℕ) (w : Walk) : Type 0 where
  pub walking : Walking t exit w
  pub more : w₀.root + sum_below (state_of t.records entry) t.records
      < w.root + sum_below (state_of t.records exit) t.records
  pub kept : Kept (t.records + t.records) entry exit

-- v is the top, and all its uses are done
pub record IsNoneLeft (t : Table) (s : List ℕ) (w : Walk) (v : ℕ) : Type 0 where
  pub is : v ≡ slot_of s w.top
  pub below : v < t.records
  pub full : state_of t.records s v ≡ last (circuit_of t) v

-- v is the top, and its next use is finished or no wire
pub record IsDone (t : Table) (s : List ℕ) (w : Walk) (v : ℕ) : Type 0 where
  pub is : v ≡ slot_of s w.top
  pub below : v < t.records
  pub more : state_of t.records s v < last (circuit_of t) v
  pub done : (k : ℕ) → k + 1 ≡ state_of t.records s v → 0 < last (circuit_of t) (used (circuit_of t) v k)
      → state_of t.records s (used (circuit_of t) v k) ≡ finished_state

-- u is the top's next use, a wire that is unvisited
pub record IsUnvisited (t : Table) (s : List ℕ) (w : Walk) (u : ℕ) : Type 0 where
  pub below : u < t.records
  pub wire : 0 < last (circuit_of t) u
  pub unvisited : state_of t.records s u ≡ 0
  pub more : state_of t.records s (slot_of s w.top) < last (circuit_of t) (slot_of s w.top)
  pub uses : Uses (graph (circuit_of t)) (slot_of s w.top) u

-- u is the top's next use, a wire that is on the stack
pub record IsStacked (t : Table) (s : List ℕ) (w : Walk) (u : ℕ) : Type 0 where
  pub below : u < t.records
  pub visited : 0 < state_of t.records s u
  pub unfinished : state_of t.records s u < finished_state
  pub uses : Uses (graph (circuit_of t)) (slot_of s w.top) u

-- what is found at the top, by what is answered
abbrev pub IsNextUse : Table → List ℕ → Walk → NextUse → Type 0
IsNextUse t s w (next_use.NoneLeft v) = IsNoneLeft t s w v
IsNextUse t s w (next_use.Done v) = IsDone t s w v
IsNextUse t s w (next_use.Unvisited u) = IsUnvisited t s w u
IsNextUse t s w (next_use.Stacked u) = IsStacked t s w u

-- ---- how the walk ends

-- every wire is finished; behind the wires there is room for the registers
pub record AllFinished (t : Table) (s : List ℕ) (finished : ℕ) : Type 0 where
  pub few : finished ≤ t.records
  pub ordered : Ordered (circuit_of t) (take finished s)
  pub room : finished + length (register_list (circuit_of t)) ≤ t.records

-- the wire at a place of the stack uses the one that stands before it, and the top uses u, which is on the stack
pub record StackCloses (t : Table) (s : List ℕ) (top u : ℕ) : Type 0 where
  pub place : ℕ
  pub low : top ≤ place
  pub high : place < t.records
  pub here : slot_of s place ≡ u
  pub wires : (i : ℕ) → top ≤ i → i < t.records
      → (slot_of s i < t.records) × (0 < last (circuit_of t) (slot_of s i))
  pub distinct : (i j : ℕ) → top ≤ i → i < t.records → top ≤ j → j < t.records
      → slot_of s i ≡ slot_of s j → i ≡ j
  pub chain : (i : ℕ) → top ≤ i → i + 1 < t.records → Uses (graph (circuit_of t)) (slot_of s (i + 1)) (slot_of s i)
  pub close : Uses (graph (circuit_of t)) (slot_of s top) u

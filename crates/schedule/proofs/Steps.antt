-- The steps of the walk in the scratch, each a law of the invariant at a list that is written in one or two places.
-- Assumes nothing.
use mathlib.Core.Path.{◌≡◌, sym, ap, ◌∙◌}
use mathlib.Core.List.{List}
use Prim.Native.Nat.{ℕ, ◌+◌, ◌-◌, ◌*◌, ◌≤◌, ◌<◌}
use native.Mathlib.Omega.{arith}
use lib.ListN.{length, get_or, set, take, length-set}
use lib.Seq.{length-take-le, get_or-set_same, get_or-set_other, get_or-take}
use Rattle.net.specs.Net.{sum_below}
use Rattle.net.specs.Loop.{Uses}
use Rattle.circuit.specs.Circuit.{graph}
use Rattle.circuit.specs.declared.table.Table.{Table}
use Rattle.circuit.specs.Tables.{circuit_of}
use Rattle.circuit.proofs.Tables.{Inside, circuit_length, circuit_inside}
use Rattle.schedule.specs.declared.walk.Walk.{Walk}
use Rattle.schedule.specs.Walk.{finished_state, last, used, slot_of, state_of, Invariant, Walking, Progress}
use Rattle.schedule.specs.Walk.{IsNoneLeft, IsDone, IsUnvisited, IsStacked, AllFinished}
use Rattle.net.proofs.Cases.{by_same}
use Rattle.schedule.proofs.Sums.{sum_rises}
use Rattle.schedule.proofs.Uses.{last_most, used_uses, used_below}
use Rattle.schedule.proofs.Invariant as invariant

-- ---- two stores, at i and then at j

module _ (s : List ℕ) (i x j y : ℕ) where
  abbrev two : List ℕ
  two = set (set s i x) j y

  two_length : length two ≡ length s
  two_length = simp length-set

  two_second : j < length s → get_or two j 0 ≡ y
  two_second l = get_or-set_same (set s i x) j y 0 (simp length-set l)

  two_first : i < length s → (i ≡ j → ⊥) → get_or two i 0 ≡ x
  two_first l ne = get_or-set_other (set s i x) j i y 0 ne ∙ get_or-set_same s i x 0 l

  two_other : (k : ℕ) → (k ≡ i → ⊥) → (k ≡ j → ⊥) → get_or two k 0 ≡ get_or s k 0
  two_other k p q = get_or-set_other (set s i x) j k y 0 q ∙ get_or-set_other s i k x 0 p

-- ---- a step of the walk

module _ {t : Table} {s : List ℕ} {w : Walk} (walking : Walking t s w) where
  counted : length (circuit_of t) ≡ t.records
  counted = circuit_length t.bytes.now t.records

  inside : Inside (circuit_of t)
  inside = circuit_inside t.bytes.now t.records t.checked.valid

  abbrev inv : Invariant (circuit_of t) t.records (slot_of s) (state_of t.records s) w.root w.finished w.top
  inv = walking.invariant

  -- the walk at another place, in a list of the same length
  on : {exit : List ℕ} {w' : Walk} → length exit ≡ length s
      → Invariant (circuit_of t) t.records (slot_of exit) (state_of t.records exit) w'.root w'.finished w'.top
      → Walking t exit w'
  on long i = record { lent = omega (arith, walking.lent); invariant = i }

  pub room : (u : ℕ) → u < t.records → state_of t.records s u ≡ 0 → w.finished < w.top
  room = invariant.room counted inside inv

  pub pushed : (u : ℕ) (exit : List ℕ) (w' : Walk) → u < t.records → 0 < last (circuit_of t) u
      → state_of t.records s u ≡ 0
      → (w.top < t.records
      → (state_of t.records s (slot_of s w.top) < last (circuit_of t) (slot_of s w.top))
      × Uses (graph (circuit_of t)) (slot_of s w.top) u)
      → (w'.root ≡ w.root) × (w'.finished ≡ w.finished) × (w'.top ≡ w.top - 1)
      → exit ≡ set (set s (t.records + u) 1) (w.top - 1) u → Progress t s w exit w'
  pushed u exit w' lu wu zu by e q =
      let top' : ℕ = w.top - 1 in
      let free : w.finished < w.top = room u lu zu in
      let high : w.top ≤ t.records = inv.top_most in
      let other : (i : ℕ) → (i ≡ t.records + u → ⊥) → (i ≡ top' → ⊥) → get_or exit i 0 ≡ get_or s i 0 =
      λ i a b. rw q (two_other s (t.records + u) 1 top' u i a b) in
      let one : state_of t.records exit u ≡ 1 =
      rw q (two_first s (t.records + u) 1 top' u (omega arith) (λ z. omega arith)) in
      let states : (v : ℕ) → (v ≡ u → ⊥) → state_of t.records exit v ≡ state_of t.records s v =
      λ v ne. other (t.records + v) (λ z. ne (omega arith)) (λ z. omega arith) in
      let long : length exit ≡ length s = ap length q ∙ two_length s (t.records + u) 1 top' u in
      record {
        walking =
            on long (rw (e.0, e.1, e.2)
            (invariant.push counted inside inv (slot_of exit) (state_of t.records exit) u top' (omega arith)
            lu wu zu
            (rw q (two_second s (t.records + u) 1 top' u (omega arith)))
            (λ i l ne. other i (λ z. omega arith) ne)
            one states by));
        more =
            omega (arith, sum_rises (state_of t.records s) (state_of t.records exit) t.records u lu (omega arith) states);
        kept = record { long = long; beyond = λ i l. other i (λ z. omega arith) (λ z. omega arith) };
      }

  pub popped : (v : ℕ) (exit : List ℕ) (w' : Walk) → w.top < t.records → IsNoneLeft t s w v
      → (w'.root ≡ w.root) × (w'.finished ≡ w.finished + 1) × (w'.top ≡ w.top + 1)
      → exit ≡ set (set s (t.records + v) finished_state) w.finished v → Progress t s w exit w'
  popped v exit w' tn found e q =
      let is : v ≡ slot_of s w.top = found.is in
      let low : w.finished ≤ w.top = inv.apart in
      let full : state_of t.records s v ≡ last (circuit_of t) v = found.full in
      let other : (i : ℕ) → (i ≡ t.records + v → ⊥) → (i ≡ w.finished → ⊥) → get_or exit i 0 ≡ get_or s i 0 =
      λ i a b. rw q (two_other s (t.records + v) finished_state w.finished v i a b) in
      let last-state : state_of t.records exit v ≡ finished_state =
      rw q (two_first s (t.records + v) finished_state w.finished v (omega (arith, found.below)) (λ z. omega arith)) in
      let states : (x : ℕ) → (x ≡ v → ⊥) → state_of t.records exit x ≡ state_of t.records s x =
      λ x ne. other (t.records + x) (λ z. ne (omega arith)) (λ z. omega arith) in
      let rises : state_of t.records s v < state_of t.records exit v = omega (arith, last_most (circuit_of t) v) in
      let long : length exit ≡ length s = ap length q ∙ two_length s (t.records + v) finished_state w.finished v in
      record {
        walking =
            on long (rw (e.0, e.1, e.2)
            (invariant.pop counted inside inv (slot_of exit) (state_of t.records exit) tn (rw is at full)
            (rw q (two_second s (t.records + v) finished_state w.finished v (omega arith)) ∙ is)
            (λ i l ne. other i (λ z. omega arith) ne)
            (rw is at last-state)
            (rw is at states)));
        more =
            omega (arith, sum_rises (state_of t.records s) (state_of t.records exit) t.records v found.below rises states);
        kept = record { long = long; beyond = λ i l. other i (λ z. omega (arith, found.below)) (λ z. omega arith) };
      }

  pub advanced : (v : ℕ) (exit : List ℕ) → w.top < t.records → IsDone t s w v
      → exit ≡ set s (t.records + v) (state_of t.records s v + 1) → Progress t s w exit w
  advanced v exit tn found q =
      let is : v ≡ slot_of s w.top = found.is in
      let below : v < t.records = found.below in
      let less : state_of t.records s v < last (circuit_of t) v = found.more in
      let other : (i : ℕ) → (i ≡ t.records + v → ⊥) → get_or exit i 0 ≡ get_or s i 0 =
      λ i ne. rw q (get_or-set_other s (t.records + v) i (state_of t.records s v + 1) 0 ne) in
      let one : state_of t.records exit v ≡ state_of t.records s v + 1 =
      rw q (get_or-set_same s (t.records + v) (state_of t.records s v + 1) 0 (omega arith)) in
      let states : (x : ℕ) → (x ≡ v → ⊥) → state_of t.records exit x ≡ state_of t.records s x =
      λ x ne. other (t.records + x) (λ z. ne (omega arith)) in
      let long : length exit ≡ length s = ap length q ∙ length-set s (t.records + v) (state_of t.records s v + 1) in
      let inv' =
      invariant.advance counted inside inv (state_of t.records exit) tn (rw is at less)
      (rw is at found.done) (rw is at one) (rw is at states) in
      record {
        walking =
            on long (invariant.same_slots counted inside inv' (slot_of exit)
            (λ i l. other i (λ z. omega arith)));
        more =
            omega (
              arith,
              sum_rises (state_of t.records s) (state_of t.records exit) t.records v below (omega arith) states,
            );
        kept = record { long = long; beyond = λ i l. other i (λ z. omega arith) };
      }

  bounded : w.root + sum_below (state_of t.records s) t.records ≤ 6 * t.records
  bounded = omega (arith, invariant.states_most counted inside inv, inv.root_most)

  -- ---- the ends

  pub all_finished : w.root ≡ t.records → w.top ≡ t.records → AllFinished t s w.finished
  all_finished en tn =
      let low : w.finished ≤ w.top = inv.apart in
      record {
        few = omega arith;
        ordered =
            invariant.ordered counted inside inv (take w.finished s) en tn
            (length-take-le w.finished s (omega arith)) (λ i l. get_or-take w.finished s i 0 l);
        room = invariant.registers_fit counted inside inv tn;
      }

-- the measure falls
pub nearer : {t : Table} {s : List ℕ} {w : Walk} {exit : List ℕ} {w' : Walk} → Progress t s w exit w'
    → 6 * t.records - (w'.root + sum_below (state_of t.records exit) t.records)
    < 6 * t.records - (w.root + sum_below (state_of t.records s) t.records)
nearer step = omega (arith, step.more, bounded step.walking)

-- ---- what is found at the top

-- the top v is read, with its state and the state in which all its uses are done
pub record TopRead (t : Table) (s : List ℕ) (w : Walk) (v state end : ℕ) : Type 0 where
  pub is : v ≡ slot_of s w.top
  pub below : v < t.records
  pub state_is : state ≡ state_of t.records s v
  pub end_is : end ≡ last (circuit_of t) v
  pub some : 0 < state
  pub within : state ≤ end
  pub few : end ≤ 4

pub top_read : {t : Table} {s : List ℕ} {w : Walk} → Walking t s w → w.top < t.records → {v state end : ℕ}
    → v ≡ slot_of s w.top → state ≡ state_of t.records s v → end ≡ last (circuit_of t) v → TopRead t s w v state end
top_read {t} {w = w} walking l {v} {state} {end} is state_is end_is =
    let h = rw (sym is) at (walking.invariant.stacked_at w.top (omega arith) l) in
    record {
      is = is;
      below = h.0;
      state_is = state_is;
      end_is = end_is;
      some = omega arith;
      within = omega arith;
      few = omega (arith, last_most (circuit_of t) v);
    }

module _ {t : Table} {s : List ℕ} {w : Walk} {v state end : ℕ} (read : TopRead t s w v state end) where
  module _ (more : state ≡ end → ⊥) {u : ℕ} (u-is : u ≡ used (circuit_of t) v (state - 1)) where
    use_left : state - 1 + 1 < last (circuit_of t) v
    use_left = omega (arith, read.end_is, read.some, read.within)

    pub use_below : u < t.records
    use_below =
        rw u-is
        (used_below (circuit_of t) v t.records (state - 1) (circuit_length t.bytes.now t.records)
        (circuit_inside t.bytes.now t.records t.checked.valid) read.below use_left)

    top_uses : Uses (graph (circuit_of t)) (slot_of s w.top) u
    top_uses = rw (sym read.is, u-is) (used_uses (circuit_of t) v (state - 1) use_left)

    pub use_done : (0 < last (circuit_of t) u → state_of t.records s u ≡ finished_state) → IsDone t s w v
    use_done h =
        record {
          is = read.is;
          below = read.below;
          more = omega (arith, read.state_is, read.end_is, read.within);
          done = λ k e p.
              let same : k ≡ state - 1 = omega (arith, read.state_is) in
              let z : used (circuit_of t) v k ≡ u = ap (used (circuit_of t) v) same ∙ sym u-is in
              rw z (h (rw z at p));
        }

    pub use_unvisited : 0 < last (circuit_of t) u → state_of t.records s u ≡ 0 → IsUnvisited t s w u
    use_unvisited p z =
        record {
          below = use_below;
          wire = p;
          unvisited = z;
          more = rw (sym read.is) (omega (arith, read.state_is, read.end_is, read.within));
          uses = top_uses;
        }

    -- a wire on the stack has uses left: what has none is finished, or no wire
    pub use_full : Walking t s w → last (circuit_of t) u ≤ state_of t.records s u → 0 < last (circuit_of t) u
        → state_of t.records s u ≡ finished_state
    use_full walking full wire =
        let inv = walking.invariant in
        by_same (state_of t.records s u) finished_state (λ q. q)
        (λ q.
        let h = inv.stacked_is u use_below (omega arith) (omega (arith, inv.state_most u use_below)) in
        by_same (inv.place u) w.top
        (λ z.
        let same : u ≡ v = sym h.2 ∙ ap (slot_of s) z ∙ sym read.is in
        absurd (omega (arith, ap (state_of t.records s) same, ap (last (circuit_of t)) same, read)))
        (λ z.
        let less = rw h.2 at (inv.waiting (inv.place u) (omega arith) h.1) in
        absurd (omega arith)))

    pub use_stacked : (state_of t.records s u ≡ 0 → ⊥) → state_of t.records s u < last (circuit_of t) u
        → IsStacked t s w u
    use_stacked z f =
        record {
          below = use_below;
          visited = omega arith;
          unfinished = omega (arith, last_most (circuit_of t) u);
          uses = top_uses;
        }

-- One use visited, in the scratch: the search goes on with it, whether it is queued now or nothing changes; and all
-- uses of the variable at the head.
-- Assumes nothing.
use mathlib.Core.Path.{◌≡◌, refl, sym, ap, ◌∙◌, subst}
use mathlib.Core.Logic.{inl, inr}
use mathlib.Core.Bool.{not}
use mathlib.Core.List.{List}
use Prim.Native.Nat.{ℕ, ◌+◌, ◌*◌, ◌≤◌, ◌<◌}
use native.Mathlib.Nat.{le_refl}
use native.Mathlib.Omega.{arith}
use lib.Dec.{T}
use lib.ListN.{length, get_or, set, length-set}
use lib.Seq.{get_or-set_same, get_or-set_other}
use Rattle.net.proofs.Cases.{by_same}
use Rattle.net.proofs.Loops.{member_get_or, member_place}
use Rattle.buffer.specs.Kept.{KeptOutside}
use Rattle.buffer.proofs.Filled.{outside_none, outside_set, outside_trans}
use Rattle.circuit.specs.Circuit.{record_of}
use Rattle.circuit.specs.declared.table.Table.{Table}
use Rattle.circuit.specs.Tables.{circuit_of}
use Rattle.circuit.proofs.Tables.{circuit_length, circuit_inside}
use Rattle.fact.specs.declared.Fact.{Fact}
use Rattle.fact.specs.declared.Fact.TheVariants.{Always, Open, Marked}
use Rattle.fact.specs.Fact.{fact_byte}
use Rattle.analysis.specs.Cells.{room}
use Rattle.analysis.proofs.Cells.{stands_same}
use Rattle.path.specs.Row.{uses_under, secret, Under}
use Rattle.path.specs.Uses.{Sorted}
use Rattle.path.specs.Search.{facts, FactsStand, queued, parent, found, Unfound, VisitedOne, Searching}
use Rattle.path.proofs.Rows.{under_uses}
use Rattle.path.proofs.Queues.{Pushed, queue_room, queue_pushed, queue_raised, queue_done}

-- ---- the facts

-- byte 0 tells whether a fact is marked
marked_byte : (f : Fact) → fact_byte f ≡ 3 → f ≡ Marked
marked_byte (Always n) e = absurd (omega (arith, e))
marked_byte Open e = absurd (omega (arith, e))
marked_byte Marked e = refl

module _ {t : Table} {s : List ℕ} (stand : FactsStand t s) where
  -- byte 0 of variable u's fact
  pub byte_at : {u : ℕ} → u < t.records → get_or s (u * 3) 0 ≡ fact_byte (facts t u)
  byte_at {u} h =
      let place : u * 3 ≡ 0 + u * 3 + 0 = omega arith in
      ap (λ (i : ℕ). get_or s i 0) place ∙ (stand.stand.cell u h).stands 0 (omega arith)

  -- they stand while what lies behind them is written
  pub facts_kept : {from to : ℕ} {s' : List ℕ} → t.records * 3 ≤ from → KeptOutside from to s s' → FactsStand t s'
  facts_kept low p =
      record {
        no_loop = stand.no_loop;
        lent = omega (arith, stand.lent, p.long);
        stand = stands_same low p stand.stand;
      }

-- ---- what is written of one more

module _ (n head tail u : ℕ) (s : List ℕ) (lent : n * room ≤ length s) (u-below : u < n) (tail-below : tail < n) where
  abbrev one : List ℕ
  one = set s (n * 3 + tail) u

  abbrev two : List ℕ
  two = set one (n * 4 + tail) head

  abbrev three : List ℕ
  three = set two (n * 5 + u) (tail + 1)

  -- a place that is none of the three
  elsewhere : (i : ℕ) → (i ≡ n * 3 + tail → ⊥) → (i ≡ n * 4 + tail → ⊥) → (i ≡ n * 5 + u → ⊥)
      → get_or three i 0 ≡ get_or s i 0
  elsewhere i a b c =
      get_or-set_other two (n * 5 + u) i (tail + 1) 0 c
      ∙ get_or-set_other one (n * 4 + tail) i head 0 b
      ∙ get_or-set_other s (n * 3 + tail) i u 0 a

  one_kept : KeptOutside (n * 3) (n * 6) s three
  one_kept =
      outside_set (n * 5 + u) (tail + 1) (omega arith) (omega arith)
      (outside_set (n * 4 + tail) head (omega arith) (omega arith)
      (outside_set (n * 3 + tail) u (omega arith) (omega arith) (outside_none (n * 3) (n * 6) s)))

  one_pushed : Pushed (queued n s) (parent n s) (found n s) (queued n three) (parent n three) (found n three) u head
      tail
  one_pushed =
      record {
        queued = λ i h. elsewhere (n * 3 + i) (λ e. omega arith) (λ e. omega arith) (λ e. omega arith);
        new_queued =
            get_or-set_other two (n * 5 + u) (n * 3 + tail) (tail + 1) 0 (λ e. omega arith)
            ∙ get_or-set_other one (n * 4 + tail) (n * 3 + tail) head 0 (λ e. omega arith)
            ∙ get_or-set_same s (n * 3 + tail) u 0 (omega arith);
        parent = λ i h. elsewhere (n * 4 + i) (λ e. omega arith) (λ e. omega arith) (λ e. omega arith);
        new_parent =
            get_or-set_other two (n * 5 + u) (n * 4 + tail) (tail + 1) 0 (λ e. omega arith)
            ∙ get_or-set_same one (n * 4 + tail) head 0 (simp length-set (omega arith));
        found = λ x ne. elsewhere (n * 5 + x) (λ e. omega arith) (λ e. omega arith) (λ e. ne (omega arith));
        new_found = get_or-set_same two (n * 5 + u) (tail + 1) 0 (simp length-set (omega arith));
      }

-- ---- one use visited

-- the search goes on with r queued, none of them found from the head above u; u is found if it is marked
pub record Visits (t : Table) (head u : ℕ) (s s' : List ℕ) (tail r : ℕ) : Type 0 where
  pub searching : Searching t s' head r u
  pub more : tail ≤ r
  pub same : (i : ℕ) → i < tail → queued t.records s' i ≡ queued t.records s i
  pub grows : (x : ℕ) → 0 < found t.records s x → 0 < found t.records s' x
  pub seen : facts t u ≡ Marked → 0 < found t.records s' u
  pub kept : KeptOutside (t.records * 3) (t.records * 6) s s'

module _ {t : Table} {s : List ℕ} {head tail bound : ℕ} (search : Searching t s head tail bound) where
  -- what is unfound leaves room
  pub visit_room : {u : ℕ} → u < t.records → Unfound t.records u s → tail < t.records
  visit_room {u} h unfound = queue_room search.queue u h unfound.1

  module _ {u : ℕ} (busy : head < tail) (low : bound ≤ u) (u-below : u < t.records)
      (under : Under (circuit_of t) (facts t) (queued t.records s head) u) where
    visit_none : (Unfound t.records u s → ⊥) → Visits t head u s s tail tail
    visit_none not-unfound =
        record {
          searching = record { facts_stand = search.facts_stand; queue = queue_raised search.queue u low };
          more = le_refl _;
          same = λ i h. refl;
          grows = λ x h. h;
          seen = λ e. by_same (found t.records s u) 0
              (λ z. absurd (not-unfound (byte_at search.facts_stand u-below ∙ ap fact_byte e, z)))
              (λ ne. omega arith);
          kept = outside_none (t.records * 3) (t.records * 6) s;
        }

    visit_one : Unfound t.records u s
        → Visits t head u s
        (set (set (set s (t.records * 3 + tail) u) (t.records * 4 + tail) head) (t.records * 5 + u) (tail + 1)) tail
        (tail + 1)
    visit_one unfound =
        let room = visit_room u-below unfound in
        let lent = search.facts_stand.lent in
        let kept = one_kept t.records head tail u s lent u-below room in
        let push = one_pushed t.records head tail u s lent u-below room in
        let marked = marked_byte (facts t u) (sym (byte_at search.facts_stand u-below) ∙ unfound.0) in
        record {
          searching = record {
            facts_stand = facts_kept search.facts_stand (le_refl _) kept;
            queue = queue_pushed search.queue u low u-below marked under unfound.1 busy push;
          };
          more = omega arith;
          same = push.queued;
          grows = λ x h. by_same x u
              (λ e. absurd (omega (arith, unfound.1, ap (found t.records s) e)))
              (λ ne. rw (push.found x ne) h);
          seen = λ _. omega (arith, push.new_found);
          kept = kept;
        }

    visited_one : {s' : List ℕ} {r : ℕ} → VisitedOne t.records head u s tail s' r → Visits t head u s s' tail r
    visited_one (inl (not-unfound, e, k)) = rw (e, k) (visit_none not-unfound)
    visited_one (inr (unfound, e, k)) = rw (e, k) (visit_one unfound)

-- ---- the uses of the variable at the head, one after the other

-- the first i of them are visited, in ascending order
pub record UsesVisited (t : Table) (head tail : ℕ) (used entry s : List ℕ) (queued_now i : ℕ) : Type 0 where
  pub bound : ℕ
  pub searching : Searching t s head queued_now bound
  pub low : i < 3 → bound ≤ get_or used i 0
  pub more : tail ≤ queued_now
  pub same : (j : ℕ) → j < tail → queued t.records s j ≡ queued t.records entry j
  pub seen : (j : ℕ) → j < i → facts t (get_or used j 0) ≡ Marked → 0 < found t.records s (get_or used j 0)
  pub kept : KeptOutside (t.records * 3) (t.records * 6) entry s

module _ {t : Table} {entry : List ℕ} {head tail v : ℕ} {used : List ℕ}
    (search : Searching t entry head tail 0) (busy : head < tail) (here : v ≡ queued t.records entry head)
    (sorted : Sorted (uses_under (facts t) (record_of (circuit_of t) v)) used) where
  pub head_below : v < t.records
  head_below = omega (arith, (search.queue.variables head busy).0)

  used_below : (u : ℕ) → Under (circuit_of t) (facts t) v u → u < t.records
  used_below u m =
      omega (
        arith,
        circuit_inside t.bytes.now t.records t.checked.valid v u
            (omega (arith, head_below, circuit_length t.bytes.now t.records)) (under_uses (circuit_of t) (facts t) v u m),
        circuit_length t.bytes.now t.records,
      )

  module _ {s : List ℕ} {queued_now i : ℕ} (visits : UsesVisited t head tail used entry s queued_now i) where
    still_busy : head < queued_now
    still_busy = omega (arith, visits.more)

    still_here : v ≡ queued t.records s head
    still_here = here ∙ sym (visits.same head busy)

    module _ {u : ℕ} (more : i < 3) (is : u ≡ get_or used i 0) where
      under : Under (circuit_of t) (facts t) v u
      under = subst T (sorted.members u) (rw is (member_get_or used i (rw sorted.three more)))

      pub use_below : u < t.records
      use_below = used_below u under

      pub use_room : Unfound t.records u s → queued_now < t.records
      use_room = visit_room visits.searching use_below

      pub one_use_visited : {s' : List ℕ} {r : ℕ} → VisitedOne t.records head u s queued_now s' r
          → UsesVisited t head tail used entry s' r (i + 1)
      one_use_visited {s'} {r} visit =
          let one : Visits t head u s s' queued_now r =
          visited_one visits.searching still_busy (rw is (visits.low more)) use_below
          (subst (λ (x : ℕ). Under (circuit_of t) (facts t) x u) still_here under) visit in
          record {
            bound = u;
            searching = one.searching;
            low = λ h. rw is (sorted.ascends i h);
            more = omega (arith, visits.more, one.more);
            same = λ j h. one.same j (omega (arith, visits.more)) ∙ visits.same j h;
            seen = λ j h e. by_same j i
                (λ same. rw (same, ← is) (one.seen (rw (same, ← is) at e)))
                (λ ne. one.grows (get_or used j 0) (visits.seen j (omega arith) e));
            kept = outside_trans visits.kept one.kept;
          }

    -- all of them, so the variable at the head is done
    module _ (all : 3 ≤ i) where
      all_seen : (u : ℕ) → Under (circuit_of t) (facts t) v u → facts t u ≡ Marked → 0 < found t.records s u
      all_seen u m e =
          let (j, low, is) = member_place u used (subst T (sym (sorted.members u)) m) in
          rw (← is) (visits.seen j (omega (arith, sorted.three)) (rw (← is) at e))

      pub uses_visited : T (not (secret (circuit_of t) v)) → Searching t s (head + 1) queued_now 0
      uses_visited open-head =
          record {
            facts_stand = visits.searching.facts_stand;
            queue =
                queue_done visits.searching.queue
                (subst (λ (x : ℕ). T (not (secret (circuit_of t) x))) still_here open-head)
                (λ u m e.
                let under = subst (λ (x : ℕ). Under (circuit_of t) (facts t) x u) (sym still_here) m in
                (used_below u under, all_seen u under e));
          }

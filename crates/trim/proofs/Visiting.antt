-- Visiting what kept variables reach: what one visit does to the invariant, what follows when a variable is taken off
-- the stack and its uses are visited, and what is visited in the end.
-- Assumes nothing.
use mathlib.Core.Path.{◌≡◌, refl, sym, ap, ◌∙◌, subst}
use mathlib.Core.Logic.{◌⊎◌, inl, inr, ⊎_elim}
use mathlib.Core.List.{List, []}
use Prim.Native.Nat.{ℕ, ◌+◌, ◌≤◌, ◌<◌}
use native.Mathlib.Nat.{not-suc-le-zero}
use native.Mathlib.Omega.{arith}
use lib.Dec.{T}
use lib.ListN.{length, get_or, set, length-set}
use lib.Seq.{get_or-set_same, get_or-set_other}
use Rattle.net.specs.Net.{put}
use Rattle.net.specs.Tests.{member}
use Rattle.net.specs.Loop.{Uses}
use Rattle.net.specs.Reach.{is_in, reached_set, ClosedUnderUses}
use Rattle.net.proofs.Cases.{by_same}
use Rattle.net.proofs.Reach.{reached_closed, reached_least}
use Rattle.net.proofs.Put.{put_same, put_other}
use Rattle.net.proofs.Loops.{member_get_or, member_place}
use Rattle.buffer.specs.Kept.{Kept}
use Rattle.buffer.proofs.Filled.{kept_none, kept_trans}
use Rattle.circuit.specs.Record.{uses}
use Rattle.circuit.specs.Circuit.{Circuit, record_of, graph}
use Rattle.schedule.specs.Walk.{sign}
use Rattle.schedule.proofs.Sums.{sum_same, visited_most, visited_more, visited_less}
use Rattle.trim.specs.Visits.{Visited, visited_count, VisitedOne, Visiting, ClosedSet}
use Rattle.trim.specs.Visits.{HasVisited, Spread, InsideOf, KeptVisited, VisitsReached}

-- ---- one visit

-- u, which is not visited, is visited and put on the stack
module _ (n u w : ℕ) (s : List ℕ) (below : u < n) (lent : n + n ≤ length s) (room : w < n) where
  abbrev s' : List ℕ
  s' = set (set s u 1) (n + w) u

  front_is : get_or s' u 0 ≡ 1
  front_is =
      get_or-set_other (set s u 1) (n + w) u u 0 (λ e. omega arith) ∙ get_or-set_same s u 1 0 (omega arith)

  front_other : (v : ℕ) → v < n → (v ≡ u → ⊥) → get_or s' v 0 ≡ get_or s v 0
  front_other v h ne =
      get_or-set_other (set s u 1) (n + w) v u 0 (λ e. omega arith) ∙ get_or-set_other s u v 1 0 ne

  stack_is : get_or s' (n + w) 0 ≡ u
  stack_is = get_or-set_same (set s u 1) (n + w) u 0 (omega (arith, length-set s u 1))

  stack_other : (j : ℕ) → (j ≡ w → ⊥) → get_or s' (n + j) 0 ≡ get_or s (n + j) 0
  stack_other j ne =
      get_or-set_other (set s u 1) (n + w) (n + j) u 0 (λ e. ne (omega arith))
      ∙ get_or-set_other s u (n + j) 1 0 (λ e. omega arith)

  front_grows : (v : ℕ) → v < n → Visited s v → Visited s' v
  front_grows v h m =
      by_same v u
      (λ e. omega (arith, ap (λ (x : ℕ). get_or s' x 0) e, front_is))
      (λ ne. omega (arith, front_other v h ne))

  front_new : (v : ℕ) → v < n → Visited s' v → (v ≡ u) ⊎ Visited s v
  front_new v h m = by_same v u (λ e. inl e) (λ ne. inr (omega (arith, front_other v h ne)))

  count_rises : get_or s u 0 ≡ 0 → visited_count s' n ≡ visited_count s n + 1
  count_rises unvisited =
      sum_same (λ v. sign (put (λ x. get_or s x 0) u 1 v)) (λ v. sign (get_or s' v 0)) n
      (λ v h. ap sign (by_same v u
      (λ e. ap (λ (x : ℕ). get_or s' x 0) e ∙ front_is ∙ sym (ap (put (λ x. get_or s x 0) u 1) e ∙ put_same _ u 1))
      (λ ne. front_other v h ne ∙ sym (put_other (λ x. get_or s x 0) u 1 v ne))))
      ∙ visited_more (λ v. get_or s v 0) n u below unvisited

  s'_kept : Kept (n + n) s s'
  s'_kept =
      record {
        long = length-set (set s u 1) (n + w) u ∙ length-set s u 1;
        beyond = λ i l.
            get_or-set_other (set s u 1) (n + w) i u 0 (λ e. omega arith) ∙ get_or-set_other s u i 1 0 (λ e. omega arith);
      }

  -- the invariant goes on
  pushed : (c : Circuit) (x : ℕ) → InsideOf c n → get_or s u 0 ≡ 0 → Visiting c n s w x → Visiting c n s' (w + 1) x
  pushed c x inside unvisited p =
      record {
        lent = omega (arith, s'_kept.long);
        few = omega (arith, count_rises unvisited, p.few);
        stacked = λ j h. by_same j w
            (λ e.
            let is : get_or s' (n + j) 0 ≡ u = ap (λ (i : ℕ). get_or s' (n + i) 0) e ∙ stack_is in
            (omega arith, rw is (omega (arith, front_is))))
            (λ ne.
            let (low, m) = p.stacked j (omega arith) in
            rw (stack_other j ne) (low, front_grows (get_or s (n + j) 0) low m));
        closed = λ v h m other. by_same v u
            (λ e. inl (w, omega arith, stack_is ∙ sym e))
            (λ ne. ⊎_elim
            (λ (j, l, is). inl (j, omega arith, stack_other j (λ e. omega arith) ∙ is))
            (λ all. inr (λ y used. front_grows y (inside v y h used) (all y used)))
            (p.closed v h (omega (arith, front_other v h ne)) other));
      }

-- what one visit does: u is visited, what was visited is, nothing else is, and as many more wait as are visited
pub record OneMore (n u : ℕ) (entry : List ℕ) (waiting : ℕ) (exit : List ℕ) (r : ℕ) : Type 0 where
  pub kept : Kept (n + n) entry exit
  pub here : Visited exit u
  pub grows : (v : ℕ) → v < n → Visited entry v → Visited exit v
  pub alone : (v : ℕ) → v < n → Visited exit v → (v ≡ u) ⊎ Visited entry v
  pub balance : visited_count exit n + waiting ≡ visited_count entry n + r

module _ {c : Circuit} {n u w x : ℕ} {s : List ℕ} (inside : InsideOf c n) (p : Visiting c n s w x) (below : u < n) where
  -- an unvisited variable leaves room on the stack
  pub stack_room : get_or s u 0 ≡ 0 → w < n
  stack_room unvisited = omega (arith, p.few, visited_less (λ v. get_or s v 0) n u below unvisited)

  pub visit_more : {exit : List ℕ} {r : ℕ} → VisitedOne n u s w exit r → OneMore n u s w exit r
  visit_more (inl (m, e, e')) =
      rw (e, e') (record {
        kept = kept_none (n + n) s;
        here = m;
        grows = λ v h k. k;
        alone = λ v h k. inr k;
        balance = refl;
      })
  visit_more (inr (z, e, e')) =
      let room = stack_room z in
      rw (e, e') (record {
        kept = s'_kept n u w s below p.lent room;
        here = omega (arith, front_is n u w s below p.lent room);
        grows = front_grows n u w s below p.lent room;
        alone = front_new n u w s below p.lent room;
        balance = omega (arith, count_rises n u w s below p.lent room z);
      })

  pub visit_visiting : {exit : List ℕ} {r : ℕ} → VisitedOne n u s w exit r → Visiting c n exit r x
  visit_visiting (inl (m, e, e')) = rw (e, e') p
  visit_visiting (inr (z, e, e')) =
      rw (e, e') (pushed n u w s below p.lent (stack_room z) c x inside z p)

-- ---- the visits that grow along uses

pub spread_then : {c : Circuit} {n : ℕ} {s₀ s₁ s₂ : List ℕ} → Spread c n s₀ s₁ → Spread c n s₁ s₂ → Spread c n s₀ s₂
spread_then p q =
    record {
      kept = kept_trans p.kept q.kept;
      grows = λ v h m. q.grows v h (p.grows v h m);
      within = λ set closed has. q.within set closed (p.within set closed has);
    }

-- a use of a visited variable is visited
use_spread : {c : Circuit} {n u w r v : ℕ} {s exit : List ℕ} → OneMore n u s w exit r → v < n → Visited s v
    → Uses (graph c) v u → Spread c n s exit
use_spread {v = v} p below m used =
    record {
      kept = p.kept;
      grows = p.grows;
      within = λ set closed has y h k. ⊎_elim
          (λ e. rw e (closed v _ below (has v below m) used))
          (λ before. has y h before)
          (p.alone y h k);
    }

-- ---- the uses of a variable that was taken off the stack

-- the first k of them are visited; as many more wait as are visited
pub record UsesVisited (c : Circuit) (n v : ℕ) (entry : List ℕ) (waiting : ℕ) (s : List ℕ)
    (stacked k : ℕ) : Type 0 where
  pub visiting : Visiting c n s stacked v
  pub spread : Spread c n entry s
  pub done : (j : ℕ) → j < k → Visited s (get_or (uses (record_of c v)) j 0)
  pub balance : visited_count s n + waiting ≡ visited_count entry n + stacked

module _ {c : Circuit} {n v : ℕ} {entry : List ℕ} {waiting : ℕ} (inside : InsideOf c n) (below : v < n)
    (visited : Visited entry v) where
  module _ {s : List ℕ} {stacked k u : ℕ} (p : UsesVisited c n v entry waiting s stacked k)
      (more : k < length (uses (record_of c v))) (is : u ≡ get_or (uses (record_of c v)) k 0) where
    used : Uses (graph c) v u
    used = rw is (member_get_or (uses (record_of c v)) k more)

    pub use_below : u < n
    use_below = inside v u below used

    pub use_room : get_or s u 0 ≡ 0 → stacked < n
    use_room = stack_room inside p.visiting use_below

    pub one_use_visited : {exit : List ℕ} {r : ℕ} → VisitedOne n u s stacked exit r
        → UsesVisited c n v entry waiting exit r (k + 1)
    one_use_visited {exit} {r} m =
        let more-visited : OneMore n u s stacked exit r = visit_more inside p.visiting use_below m in
        record {
          visiting = visit_visiting inside p.visiting use_below m;
          spread = spread_then p.spread (use_spread more-visited below (p.spread.grows v below visited) used);
          done = λ j h. by_same j k
              (λ e. rw (e, ← is) more-visited.here)
              (λ ne. more-visited.grows (get_or (uses (record_of c v)) j 0)
              (inside v _ below (member_get_or (uses (record_of c v)) j (omega arith))) (p.done j (omega arith)));
          balance = omega (arith, p.balance, more-visited.balance);
        }

  -- all of them
  pub all_uses_visited : {s : List ℕ} {stacked k : ℕ} → UsesVisited c n v entry waiting s stacked k
      → length (uses (record_of c v)) ≤ k → Visiting c n s stacked n
  all_uses_visited {s} p all =
      record {
        lent = p.visiting.lent;
        few = p.visiting.few;
        stacked = p.visiting.stacked;
        closed = λ y h m _. by_same y v
            (λ e. inr (λ u used.
            let (j, low, is) = member_place u (uses (record_of c v)) (rw e at used) in
            rw (← is) (p.done j (omega arith))))
            (λ ne. p.visiting.closed y h m ne);
      }

-- ---- all that wait

-- what is visited and waits no more was taken off, each variable once
pub taken_few : {c : Circuit} {n w x : ℕ} {s : List ℕ} → Visiting c n s w x
    → (w ≤ visited_count s n) × (visited_count s n ≤ n)
taken_few {n = n} {s = s} p = (p.few, visited_most (λ v. get_or s v 0) n)

-- ---- the kept variables

-- a circuit that uses nothing
nothing_used : (n : ℕ) → InsideOf [] n
unfolding member
nothing_used n v u h used = absurd used

module _ {n : ℕ} {kept : List ℕ} {i : ℕ} {entry s : List ℕ} {stacked u : ℕ}
    (all-below : (j : ℕ) → j < length kept → get_or kept j 0 < n) (p : KeptVisited n kept i entry s stacked)
    (more : i < length kept) (is : u ≡ get_or kept i 0) where
  pub kept_below : u < n
  kept_below = rw is (all-below i more)

  pub kept_room : get_or s u 0 ≡ 0 → stacked < n
  kept_room = stack_room (nothing_used n) (p.visiting [] (nothing_used n)) kept_below

  pub one_kept : {exit : List ℕ} {r : ℕ} → VisitedOne n u s stacked exit r → KeptVisited n kept (i + 1) entry exit r
  one_kept {exit} {r} m =
      let more-visited : OneMore n u s stacked exit r =
      visit_more (nothing_used n) (p.visiting [] (nothing_used n)) kept_below m in
      record {
        outside = kept_trans p.outside more-visited.kept;
        visiting = λ c inside. visit_visiting inside (p.visiting c inside) kept_below m;
        visited = λ j h. by_same j i
            (λ e. rw (e, ← is) more-visited.here)
            (λ ne. more-visited.grows (get_or kept j 0) (all-below j (omega arith)) (p.visited j (omega arith)));
        alone = λ v h k. ⊎_elim
            (λ e. subst (λ (x : ℕ). T (member x kept)) (sym (e ∙ is)) (member_get_or kept i more))
            (λ before. p.alone v h before)
            (more-visited.alone v h k);
      }

-- ---- in the end

-- what is visited is what the kept variables reach
pub visits_reached : {c : Circuit} {n : ℕ} {kept entry s exit : List ℕ} {waiting : ℕ} → length c ≡ n → InsideOf c n
    → KeptVisited n kept (length kept) entry s waiting → Spread c n s exit → Visiting c n exit 0 n
    → VisitsReached c kept n exit
visits_reached {c} {n} {kept} {s = s} {exit} size inside p q m =
    record {
      sound = λ v h k. q.within (is_in (reached_set (graph c) kept)) closed has v h k;
      whole = λ v h k. reached_least (graph c) kept (λ u. Visited exit u) visited_closed v k;
    }
  where
    visited_closed : ClosedUnderUses (graph c) kept (λ u. Visited exit u)
    visited_closed =
        record {
          has = λ u l e.
              let (j, below, is) = member_place u kept e in
              q.grows u (omega arith) (rw is at (p.visited j below));
          closed = λ x u l visited below used. ⊎_elim
              (λ (j, none, is). absurd (not-suc-le-zero none))
              (λ all. all u used)
              (m.closed x (omega arith) visited (λ e. omega arith));
        }

    reached : ClosedUnderUses (graph c) kept (λ u. T (is_in (reached_set (graph c) kept) u))
    reached = reached_closed (graph c) kept

    closed : ClosedSet c n (is_in (reached_set (graph c) kept))
    closed x u l t used = reached.closed x u (omega arith) t (omega (arith, inside x u l used)) used

    has : HasVisited s n (is_in (reached_set (graph c) kept))
    has u l k = reached.has u (omega arith) (p.alone u l k)

-- The laws of the walk's invariant, over functions: its start, a push, a use that is done, a pop, and its end.
-- Assumes nothing.
use mathlib.Core.Path.{◌≡◌, refl, sym, ap, ◌∙◌}
use mathlib.Core.List.{List}
use Prim.Native.Nat.{ℕ, zero, suc, ◌+◌, ◌*◌, ◌≤◌, ◌<◌, zero-le}
use native.Mathlib.Nat.{not-suc-le-zero}
use native.Mathlib.Omega.{arith}
use lib.ListN.{length, get_or}
use Rattle.net.specs.Net.{sum_below, put}
use Rattle.net.specs.Loop.{Uses}
use Rattle.circuit.specs.Circuit.{Circuit, graph}
use Rattle.circuit.proofs.Tables.{Inside}
use Rattle.schedule.specs.Schedule.{Ordered, register_list}
use Rattle.schedule.specs.Walk.{finished_state, last, used, sign, count_visited, Invariant}
use Rattle.net.proofs.Cases.{by_same}
use Rattle.net.proofs.Put.{put_same, put_other}
use Rattle.schedule.proofs.Sums.{sum_change, sum_most, sign_most, sign_positive, visited_less}
use Rattle.schedule.proofs.Uses.{last_most, last_wire, wire_last, last_no_register, uses_used, used_below}
use Rattle.schedule.proofs.Registers.{register_list_room}

-- nothing is visited yet
pub start : (c : Circuit) (n : ℕ) (slot state : ℕ → ℕ) → ((v : ℕ) → v < n → state v ≡ 0)
    → Invariant c n slot state 0 0 n
start c n slot state z =
    let none : count_visited state n ≤ 0 * n = sum_most (λ v. sign (state v)) 0 n (λ v l. rw (z v l) zero-le) in
    record {
      place = λ v. v;
      root_most = zero-le;
      apart = zero-le;
      top_most = omega arith;
      count = omega arith;
      finished_at = λ i l. absurd (not-suc-le-zero l);
      stacked_at = λ i l l'. absurd (omega arith);
      state_most = λ v l. omega (arith, z v l);
      finished_is = λ v l e. absurd (omega (arith, z v l));
      stacked_is = λ v l p q. absurd (omega (arith, z v l));
      after = λ i k l. absurd (not-suc-le-zero l);
      done = λ i k l l'. absurd (omega arith);
      chain = λ i l l'. absurd (omega arith);
      waiting = λ i l l'. absurd (omega arith);
      tried = λ v l. absurd (not-suc-le-zero l);
    }

module _ {c : Circuit} {n : ℕ} (len : length c ≡ n) (inside : Inside c) {slot state : ℕ → ℕ} {root finished top : ℕ}
    (inv : Invariant c n slot state root finished top) where
  -- an unvisited variable leaves room between the finished wires and the stack
  pub room : (u : ℕ) → u < n → state u ≡ 0 → finished < top
  room u l z = omega (arith, visited_less state n u l z, inv.count)

  -- an unvisited wire, which the top uses if there is one, goes onto the stack
  pub push : (slot' state' : ℕ → ℕ) (u top' : ℕ) → top ≡ top' + 1 → u < n → 0 < last c u → state u ≡ 0
      → slot' top' ≡ u → ((i : ℕ) → i < n → (i ≡ top' → ⊥) → slot' i ≡ slot i)
      → state' u ≡ 1 → ((v : ℕ) → (v ≡ u → ⊥) → state' v ≡ state v)
      → (top < n → (state (slot top) < last c (slot top)) × Uses (graph c) (slot top) u)
      → Invariant c n slot' state' root finished top'
  push slot' state' u top' et lu wu zu here slots one states by =
      let place : ℕ → ℕ = inv.place in
      let place' : ℕ → ℕ = put place u top' in
      let free : finished < top = room u lu zu in
      let high : top ≤ n = inv.top_most in
      let at-u : place' u ≡ top' = put_same place u top' in
      let places : (v : ℕ) → (v ≡ u → ⊥) → place' v ≡ place v = put_other place u top' in
      let not-u : (v x : ℕ) → state v ≡ x → 0 < x → v ≡ u → ⊥ = λ v x q l z. omega (arith, ap state z) in
      let more : count_visited state' n + sign (state u) ≡ count_visited state n + sign (state' u) =
      sum_change (λ v. sign (state v)) (λ v. sign (state' v)) n u lu (λ x ne. ap sign (states x ne)) in
      let was : sign (state u) ≡ 0 = ap sign zu in
      let is : sign (state' u) ≡ 1 = ap sign one in
      let count : finished + n ≡ top + count_visited state n = inv.count in
      record {
        place = place';
        root_most = inv.root_most;
        apart = omega arith;
        top_most = omega arith;
        count = omega arith;
        finished_at = λ i l.
            let h = inv.finished_at i l in
            let ne : slot i ≡ u → ⊥ = not-u (slot i) finished_state h.2 (omega arith) in
            rw (slots i (omega arith) (λ z. omega arith), states (slot i) ne, places (slot i) ne) h;
        stacked_at = λ i l l'. by_same i top'
            (λ q. rw (ap slot' q ∙ here, one, at-u) (lu, omega arith, omega arith, sym q))
            (λ q.
            let h = inv.stacked_at i (omega arith) l' in
            let ne : slot i ≡ u → ⊥ = not-u (slot i) (state (slot i)) refl h.1 in
            rw (slots i (omega arith) q, states (slot i) ne, places (slot i) ne) h);
        state_most = λ v l. by_same v u
            (λ q. omega (arith, ap state' q))
            (λ q. rw (states v q) (inv.state_most v l));
        finished_is = λ v l e. by_same v u
            (λ q. absurd (omega (arith, ap state' q)))
            (λ q.
            let h = inv.finished_is v l (sym (states v q) ∙ e) in
            rw (places v q, slots (place v) (omega arith) (λ z. omega arith)) h);
        stacked_is = λ v l p p'. by_same v u
            (λ q. rw (q, at-u) (omega arith, omega arith, here))
            (λ q.
            let h = inv.stacked_is v l (rw (states v q) at p) (rw (states v q) at p') in
            rw (places v q, slots (place v) (omega arith) (λ z. omega arith)) (omega arith, h.1, h.2));
        after = λ i k l hk hw.
            let e : slot' i ≡ slot i = slots i (omega arith) (λ z. omega arith) in
            let h = inv.after i k l (rw e at hk) (rw e at hw) in
            let ne : used c (slot i) k ≡ u → ⊥ = not-u (used c (slot i) k) finished_state h.0 (omega arith) in
            rw (e, states (used c (slot i) k) ne, places (used c (slot i) k) ne) h;
        done = λ i k l l' hk hw. by_same i top'
            (λ q. absurd (omega (arith, ap state' (ap slot' q ∙ here))))
            (λ q.
            let e : slot' i ≡ slot i = slots i (omega arith) q in
            let h = inv.stacked_at i (omega arith) l' in
            let e' : state' (slot i) ≡ state (slot i) =
            states (slot i) (not-u (slot i) (state (slot i)) refl h.1) in
            let r : state (used c (slot i) k) ≡ finished_state =
            inv.done i k (omega arith) l' (rw (e, e') at hk) (rw e at hw) in
            rw (e, states (used c (slot i) k) (not-u (used c (slot i) k) finished_state r (omega arith))) r);
        chain = λ i l l'.
            let e : slot' (i + 1) ≡ slot (i + 1) = slots (i + 1) l' (λ z. omega arith) in
            by_same i top'
            (λ q. rw (e, ap slot' q ∙ here, ap (λ (x : ℕ). x + 1) q ∙ sym et) (by (omega arith)).1)
            (λ q. rw (e, slots i (omega arith) q) (inv.chain i (omega arith) l'));
        waiting = λ i l l'.
            let h = inv.stacked_at i (omega arith) l' in
            let ne : slot i ≡ u → ⊥ = not-u (slot i) (state (slot i)) refl h.1 in
            let w : state (slot i) < last c (slot i) =
            by_same i top (λ q. rw q (by (omega arith)).0) (λ q. inv.waiting i (omega arith) l') in
            rw (slots i l' (λ z. omega arith), states (slot i) ne) w;
        tried = λ v l w. by_same v u
            (λ q. omega (arith, ap state' q))
            (λ q. rw (states v q) (inv.tried v l w));
      }

  -- the top's next use is finished or no wire
  pub advance : (state' : ℕ → ℕ) → top < n → state (slot top) < last c (slot top)
      → ((k : ℕ) → k + 1 ≡ state (slot top) → 0 < last c (used c (slot top) k)
      → state (used c (slot top) k) ≡ finished_state)
      → state' (slot top) ≡ state (slot top) + 1 → ((v : ℕ) → (v ≡ slot top → ⊥) → state' v ≡ state v)
      → Invariant c n slot state' root finished top
  advance state' tn less next one states =
      let at_top = inv.stacked_at top (omega arith) tn in
      let most : last c (slot top) ≤ 4 = last_most c (slot top) in
      let not_top : (v : ℕ) → state v ≡ finished_state → v ≡ slot top → ⊥ = λ v q z. omega (arith, ap state z) in
      let more : count_visited state' n + sign (state (slot top)) ≡ count_visited state n + sign (state' (slot top)) =
      sum_change (λ v. sign (state v)) (λ v. sign (state' v)) n (slot top) at_top.0
      (λ x ne. ap sign (states x ne)) in
      let was : sign (state (slot top)) ≡ 1 = sign_positive (state (slot top)) at_top.1 in
      let is : sign (state' (slot top)) ≡ 1 = sign_positive (state' (slot top)) (omega arith) in
      let count : finished + n ≡ top + count_visited state n = inv.count in
      record {
        place = inv.place;
        root_most = inv.root_most;
        apart = inv.apart;
        top_most = inv.top_most;
        count = omega arith;
        finished_at = λ i l.
            let h = inv.finished_at i l in
            rw (states (slot i) (not_top (slot i) h.2)) h;
        stacked_at = λ i l l'. by_same (slot i) (slot top)
            (λ q.
            let h = inv.stacked_at i l l' in
            let e : state' (slot i) ≡ state (slot top) + 1 = ap state' q ∙ one in
            let e' : last c (slot i) ≡ last c (slot top) = ap (last c) q in
            rw e (h.0, omega arith, omega arith, h.3))
            (λ q. rw (states (slot i) q) (inv.stacked_at i l l'));
        state_most = λ v l. by_same v (slot top)
            (λ q. omega (arith, ap state' q))
            (λ q. rw (states v q) (inv.state_most v l));
        finished_is = λ v l e. by_same v (slot top)
            (λ q. absurd (omega (arith, ap state' q)))
            (λ q. inv.finished_is v l (sym (states v q) ∙ e));
        stacked_is = λ v l p p'. by_same v (slot top)
            (λ q. inv.stacked_is v l (omega (arith, ap state q)) (omega (arith, ap state q)))
            (λ q. inv.stacked_is v l (rw (states v q) at p) (rw (states v q) at p'));
        after = λ i k l hk hw.
            let h = inv.after i k l hk hw in
            rw (states (used c (slot i) k) (not_top (used c (slot i) k) h.0)) h;
        done = λ i k l l' hk hw.
            let r : state (used c (slot i) k) ≡ finished_state =
            by_same (slot i) (slot top)
            (λ q. by_same (k + 1) (state (slot top))
            (λ z. rw q (next k z (rw q at hw)))
            (λ z. inv.done i k l l' (omega (arith, ap state q, ap state' q)) hw))
            (λ q. inv.done i k l l' (rw (states (slot i) q) at hk) hw) in
            rw (states (used c (slot i) k) (not_top (used c (slot i) k) r)) r;
        chain = inv.chain;
        waiting = λ i l l'.
            let h = inv.stacked_at i (omega arith) l' in
            let ne : slot i ≡ slot top → ⊥ = λ z. omega (arith, h.3, at_top.3, ap inv.place z) in
            rw (states (slot i) ne) (inv.waiting i l l');
        tried = λ v l w. by_same v (slot top)
            (λ q. omega (arith, ap state' q))
            (λ q. rw (states v q) (inv.tried v l w));
      }

  -- the top has no use left: it is finished
  pub pop : (slot' state' : ℕ → ℕ) → top < n → state (slot top) ≡ last c (slot top)
      → slot' finished ≡ slot top → ((i : ℕ) → i < n → (i ≡ finished → ⊥) → slot' i ≡ slot i)
      → state' (slot top) ≡ finished_state → ((v : ℕ) → (v ≡ slot top → ⊥) → state' v ≡ state v)
      → Invariant c n slot' state' root (finished + 1) (top + 1)
  pop slot' state' tn full here slots five states =
      let place : ℕ → ℕ = inv.place in
      let place' : ℕ → ℕ = put place (slot top) finished in
      let at_top = inv.stacked_at top (omega arith) tn in
      let most : last c (slot top) ≤ 4 = last_most c (slot top) in
      let low : finished ≤ top = inv.apart in
      let at_end : place' (slot top) ≡ finished = put_same place (slot top) finished in
      let places : (v : ℕ) → (v ≡ slot top → ⊥) → place' v ≡ place v = put_other place (slot top) finished in
      let not_top : (v : ℕ) → state v ≡ finished_state → v ≡ slot top → ⊥ = λ v q z. omega (arith, ap state z) in
      let above : (v i : ℕ) → place v ≡ i → top < i → v ≡ slot top → ⊥ = λ v i q l z. omega (arith, ap place z) in
      let more : count_visited state' n + sign (state (slot top)) ≡ count_visited state n + sign (state' (slot top)) =
      sum_change (λ v. sign (state v)) (λ v. sign (state' v)) n (slot top) at_top.0
      (λ x ne. ap sign (states x ne)) in
      let was : sign (state (slot top)) ≡ 1 = sign_positive (state (slot top)) at_top.1 in
      let is : sign (state' (slot top)) ≡ 1 = sign_positive (state' (slot top)) (omega arith) in
      let count : finished + n ≡ top + count_visited state n = inv.count in
      let still : (v : ℕ) → state v ≡ finished_state → state' v ≡ finished_state = λ v q. states v (not_top v q) ∙ q in
      record {
        place = place';
        root_most = inv.root_most;
        apart = omega arith;
        top_most = omega arith;
        count = omega arith;
        finished_at = λ i l. by_same i finished
            (λ q. rw (ap slot' q ∙ here, five, at_end) (at_top.0, omega arith, refl, sym q))
            (λ q.
            let h = inv.finished_at i (omega arith) in
            let ne : slot i ≡ slot top → ⊥ = not_top (slot i) h.2 in
            rw (slots i (omega arith) q, states (slot i) ne, places (slot i) ne) h);
        stacked_at = λ i l l'.
            let h = inv.stacked_at i (omega arith) l' in
            let ne : slot i ≡ slot top → ⊥ = above (slot i) i h.3 (omega arith) in
            rw (slots i (omega arith) (λ z. omega arith), states (slot i) ne, places (slot i) ne) h;
        state_most = λ v l. by_same v (slot top)
            (λ q. omega (arith, ap state' q))
            (λ q. rw (states v q) (inv.state_most v l));
        finished_is = λ v l e. by_same v (slot top)
            (λ q. rw (q, at_end) (omega arith, here))
            (λ q.
            let h = inv.finished_is v l (sym (states v q) ∙ e) in
            rw (places v q, slots (place v) (omega arith) (λ z. omega arith)) (omega arith, h.1));
        stacked_is = λ v l p p'. by_same v (slot top)
            (λ q. absurd (omega (arith, ap state' q)))
            (λ q.
            let h = inv.stacked_is v l (rw (states v q) at p) (rw (states v q) at p') in
            let ne : place v ≡ top → ⊥ = λ z. q (sym h.2 ∙ ap slot z) in
            rw (places v q, slots (place v) (omega arith) (λ z. omega arith)) (omega arith, h.1, h.2));
        after = λ i k l hk hw. by_same i finished
            (λ q.
            let e : slot' i ≡ slot top = ap slot' q ∙ here in
            let hk' : k + 1 < last c (slot top) = rw e at hk in
            let r : state (used c (slot top) k) ≡ finished_state =
            inv.done top k (omega arith) tn (omega arith) (rw e at hw) in
            let below : used c (slot top) k < n = used_below c (slot top) n k len inside at_top.0 hk' in
            let h = inv.finished_is (used c (slot top) k) below r in
            rw (e, still (used c (slot top) k) r, places (used c (slot top) k) (not_top (used c (slot top) k) r))
            (refl, omega arith))
            (λ q.
            let e : slot' i ≡ slot i = slots i (omega arith) q in
            let h = inv.after i k (omega arith) (rw e at hk) (rw e at hw) in
            let ne : used c (slot i) k ≡ slot top → ⊥ = not_top (used c (slot i) k) h.0 in
            rw (e, states (used c (slot i) k) ne, places (used c (slot i) k) ne) h);
        done = λ i k l l' hk hw.
            let e : slot' i ≡ slot i = slots i (omega arith) (λ z. omega arith) in
            let h = inv.stacked_at i (omega arith) l' in
            let e' : state' (slot i) ≡ state (slot i) = states (slot i) (above (slot i) i h.3 (omega arith)) in
            let r : state (used c (slot i) k) ≡ finished_state =
            inv.done i k (omega arith) l' (rw (e, e') at hk) (rw e at hw) in
            rw e (still (used c (slot i) k) r);
        chain = λ i l l'.
            rw (slots (i + 1) l' (λ z. omega arith), slots i (omega arith) (λ z. omega arith))
            (inv.chain i (omega arith) l');
        waiting = λ i l l'.
            let h = inv.stacked_at i (omega arith) l' in
            let ne : slot i ≡ slot top → ⊥ = above (slot i) i h.3 (omega arith) in
            rw (slots i l' (λ z. omega arith), states (slot i) ne) (inv.waiting i (omega arith) l');
        tried = λ v l w. by_same v (slot top)
            (λ q. omega (arith, ap state' q))
            (λ q. rw (states v q) (inv.tried v l w));
      }

  -- only the slots below n count
  pub same_slots : (slot' : ℕ → ℕ) → ((i : ℕ) → i < n → slot' i ≡ slot i)
      → Invariant c n slot' state root finished top
  same_slots slot' slots =
      record {
        place = inv.place;
        root_most = inv.root_most;
        apart = inv.apart;
        top_most = inv.top_most;
        count = inv.count;
        finished_at = λ i l. rw (slots i (omega arith)) (inv.finished_at i l);
        stacked_at = λ i l l'. rw (slots i l') (inv.stacked_at i l l');
        state_most = inv.state_most;
        finished_is = λ v l e.
            let h = inv.finished_is v l e in
            (h.0, slots (inv.place v) (omega arith) ∙ h.1);
        stacked_is = λ v l p p'.
            let h = inv.stacked_is v l p p' in
            (h.0, h.1, slots (inv.place v) (omega arith) ∙ h.2);
        after = λ i k l hk hw.
            let e : slot' i ≡ slot i = slots i (omega arith) in
            rw e (inv.after i k l (rw e at hk) (rw e at hw));
        done = λ i k l l' hk hw.
            let e : slot' i ≡ slot i = slots i l' in
            rw e (inv.done i k l l' (rw e at hk) (rw e at hw));
        chain = λ i l l'. rw (slots (i + 1) l', slots i (omega arith)) (inv.chain i l l');
        waiting = λ i l l'. rw (slots i l') (inv.waiting i l l');
        tried = inv.tried;
      }

  pub states_most : sum_below state n ≤ finished_state * n
  states_most = sum_most state finished_state n inv.state_most

  -- ---- the end: nothing on the stack, and no root left

  visited_wire : (v : ℕ) → v < n → 0 < state v → 0 < last c v
  visited_wire v l p =
      by_same (state v) finished_state
      (λ q.
      let h = inv.finished_is v l q in
      rw h.1 at (inv.finished_at (inv.place v) h.0).1)
      (λ q.
      let h = inv.stacked_is v l p (omega (arith, inv.state_most v l)) in
      let h' = inv.stacked_at (inv.place v) h.0 h.1 in
      let w : 0 < last c (slot (inv.place v)) = omega arith in
      rw h.2 at w)

  pub registers_fit : top ≡ n → finished + length (register_list c) ≤ n
  registers_fit e =
      omega (
        arith,
        register_list_room c n len (λ v. sign (state v)) (λ v l. sign_most (state v))
            (λ v l p. last_no_register c v (visited_wire v l (sign_of (state v) p))),
        inv.count,
      )
    where
      sign_of : (x : ℕ) → 0 < sign x → 0 < x
      sign_of zero h = h
      sign_of (suc x) h = omega arith

  pub ordered : (order : List ℕ) → root ≡ n → top ≡ n → length order ≡ finished
      → ((i : ℕ) → i < finished → get_or order i 0 ≡ slot i) → Ordered c order
  ordered order en tn size is =
      let place : ℕ → ℕ = inv.place in
      let all_finished : (v : ℕ) → v < n → 0 < last c v → state v ≡ finished_state = λ v l w.
      by_same (state v) finished_state (λ q. q) (λ q.
      let h = inv.stacked_is v l (inv.tried v (omega arith) w) (omega (arith, inv.state_most v l)) in
      absurd (omega arith)) in
      record {
        wires = λ i l.
            let h = inv.finished_at i (omega arith) in
            rw (is i (omega arith)) (omega arith, last_wire c (slot i) h.1);
        distinct = λ i j l l' q.
            sym (inv.finished_at i (omega arith)).3
            ∙ ap place (sym (is i (omega arith)) ∙ q ∙ is j (omega arith))
            ∙ (inv.finished_at j (omega arith)).3;
        all = λ v l w.
            let h = inv.finished_is v (omega arith) (all_finished v (omega arith) (wire_last c v w)) in
            (place v, omega arith, is (place v) h.0 ∙ h.1);
        after = λ i u l uses w.
            let l' : i < finished = omega arith in
            let h = inv.finished_at i l' in
            let (k, hk, q) = uses_used c (slot i) u (last_wire c (slot i) h.1) (rw (is i l') at uses) in
            let r = inv.after i k l' hk (rw q (wire_last c u w)) in
            let below : used c (slot i) k < n = used_below c (slot i) n k len inside h.0 hk in
            let g = inv.finished_is (used c (slot i) k) below r.0 in
            (place (used c (slot i) k), r.1, is (place (used c (slot i) k)) g.0 ∙ g.1 ∙ q);
      }

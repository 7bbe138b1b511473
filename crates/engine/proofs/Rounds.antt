-- The rounds on a store in a buffer: what holds before each, that they go on while the definition's do, and where they
-- stop. Over any type of values, layout, rule and test of sameness.
-- Assumes nothing.
use mathlib.Core.Path.{◌≡◌, refl, sym, ap, ◌∙◌, subst}
use mathlib.Core.Bool.{Bool, true, false, not, ◌&&◌, ◌||◌}
use mathlib.Core.List.{List}
use Prim.Native.Nat.{ℕ, ◌+◌, ◌*◌, ◌<◌, ◌≤◌, zero-le}
use native.Mathlib.Decide.{dec_lt}
use native.Mathlib.Numerals.{add-one}
use native.Mathlib.Omega.{arith}
use borrow.Author.Tests.{not-true, not-false}
use lib.Dec.{T}
use lib.ListN.{length, get_or}
use Rattle.net.specs.Tests.{all_below}
use Rattle.net.specs.Net.{Graph, register, settle, step, round, after, Counts}
use Rattle.net.proofs.Bools.{T_of, of_T, true_false, all_at, all_of}
use Rattle.net.proofs.Rounds.{after_suc}
use Rattle.net.proofs.Settle.{Agree, step_register, settle_register}
use Rattle.buffer.specs.Store.{Layout, Stands, Holds, Moves}
use Rattle.buffer.proofs.Filled.{kept_none}
use Rattle.buffer.proofs.Store.{moves_then, holds_moves}
use Rattle.circuit.specs.Record.{role}
use Rattle.circuit.specs.Circuit.{Circuit, circuit, record_of, graph}
use Rattle.circuit.proofs.Tables.{circuit_length}
use Rattle.schedule.specs.Schedule.{register_list}
use Rattle.schedule.proofs.Registers.{register_list_register, register_list_all}
use Rattle.engine.specs.Registers.{stays_at}
use Rattle.engine.proofs.Passes.{Lawful}

round_register : {A : Type 0} (g : Graph) (f : (ℕ → A) → ℕ → A) (s : ℕ → A) (v : ℕ) → g.role v ≡ register
    → round g f s v ≡ f s v
unfolding round
round_register g f s v e = settle_register g f (step g f s) v e ∙ step_register g f s v e

-- ---- whether one of the first j registers changes

not_and : (a b : Bool) → (not b || not a) ≡ not (a && b)
not_and true true = refl
not_and true false = refl
not_and false true = refl
not_and false false = refl

pub changes_none : (p : ℕ → Bool) → false ≡ not (all_below p 0)
unfolding all_below
changes_none p = refl

pub changes_more : (p : ℕ → Bool) (j : ℕ) {differs changed : Bool} → differs ≡ not (p j)
    → changed ≡ not (all_below p j) → (changed || differs) ≡ not (all_below p (j + 1))
unfolding all_below
changes_more p j d e = rw (add-one j, d, e) (not_and (p j) (all_below p j))

-- ---- a test of all registers, on a store that agrees with the one after k of the counted rounds

module _ {A : Type 0} {t : List ℕ} {n : ℕ} {f : (ℕ → A) → ℕ → A} (laws : Lawful t n f) {same : A → A → Bool}
    (same_eq : (x y : A) → same x y ≡ true → x ≡ y) (same_refl : (x : A) → same x x ≡ true) {first : ℕ → A} {total : ℕ}
    (counted : Counts (graph (circuit t n)) f first total) where
  module _ {k : ℕ} {s : ℕ → A} (h : Agree (graph (circuit t n)) s (after (graph (circuit t n)) f k first))
      (few : k ≤ total) where
    abbrev c : Circuit
    c = circuit t n

    -- the definition's round gives a register what the rule gives it on the store
    register_next : (v : ℕ) → v < length c → role (record_of c v) ≡ register
        → f s v ≡ round (graph c) f (after (graph c) f k first) v
    register_next v below e =
        laws.agree s (after (graph c) f k first) h v below
        ∙ sym (round_register (graph c) f (after (graph c) f k first) v e)

    stopped_here : all_below (stays_at c f same s) (length (register_list c)) ≡ true → k ≡ total
    stopped_here e = elim (dec_lt k total) [ yes l ↦ absurd (changes l) | no l ↦ omega arith ]
      where
        changes : k < total → ⊥
        changes l =
            let (v, below, is_register_lem, differs) = counted.before k l in
            let (j, lj, q) = register_list_all c v below is_register_lem in
            let stays : f s v ≡ s v =
            subst (λ (u : ℕ). f s u ≡ s u) q
            (same_eq _ _ (of_T _ (all_at (stays_at c f same s) (length (register_list c)) (T_of _ e) j lj))) in
            differs (sym (register_next v below is_register_lem) ∙ stays ∙ h v below)

    not_stopped : all_below (stays_at c f same s) (length (register_list c)) ≡ false → k < total
    not_stopped e = elim (dec_lt k total) [ yes l ↦ l | no l ↦ absurd (still (omega arith)) ]
      where
        still : k ≡ total → ⊥
        still q =
            true_false (sym (of_T _ (all_of (stays_at c f same s) (length (register_list c)) (λ j l. stays j l))) ∙ e)
          where
            stays : (j : ℕ) → j < length (register_list c) → T (stays_at c f same s j)
            stays j l =
                let (below, is_register_lem) = register_list_register c j l in
                let v = get_or (register_list c) j 0 in
                let same_value : f s v ≡ s v =
                register_next v below is_register_lem
                ∙ subst (λ (i : ℕ). round (graph c) f (after (graph c) f i first) v ≡ after (graph c) f i first v)
                (sym q) (counted.stops v below is_register_lem)
                ∙ sym (h v below) in
                T_of _ (ap (λ (x : A). same x (s v)) same_value ∙ same_refl (s v))

-- ---- the rounds under way

-- before the round after the first `count` of `total`
pub record Running {A : Type 0} (L : Layout A) (t : List ℕ) (n : ℕ) (f : (ℕ → A) → ℕ → A) (first : ℕ → A) (total : ℕ)
    (entry cells : List ℕ) (count : ℕ) : Type 0 where
  pub holds : Holds L n (after (graph (circuit t n)) f count first) entry cells
  pub few : count ≤ total

module _ {A : Type 0} {L : Layout A} {t : List ℕ} {n : ℕ} {f : (ℕ → A) → ℕ → A} {first : ℕ → A} {total : ℕ} where
  -- before any round
  pub run_start : {cells : List ℕ} → Stands L 0 n first cells → Running L t n f first total cells cells 0
  unfolding after
  run_start {cells} h =
      record { holds = record { kept = kept_none (n * L.each) cells; stands = h }; few = zero-le }

  module _ {entry cells : List ℕ} {count : ℕ} (run : Running L t n f first total entry cells count) where
    pub run_next : {committed settled : List ℕ} → Moves L n (step (graph (circuit t n)) f) cells committed
        → Moves L n (settle (graph (circuit t n)) f) committed settled → count < total
        → Running L t n f first total entry settled (count + 1)
    unfolding round
    run_next {settled = settled} stepped done l =
        record {
          holds =
              subst (λ (s : ℕ → A). Holds L n s entry settled)
              (sym (ap (λ (i : ℕ). after (graph (circuit t n)) f i first) (add-one count)
              ∙ after_suc (graph (circuit t n)) f count first))
              (holds_moves run.holds (moves_then stepped done));
          few = omega arith;
        }

    pub run_end : count ≡ total → Holds L n (after (graph (circuit t n)) f total first) entry cells
    run_end e =
        subst (λ (k : ℕ). Holds L n (after (graph (circuit t n)) f k first) entry cells) e run.holds

    module _ (laws : Lawful t n f) {same : A → A → Bool} (same_eq : (x y : A) → same x y ≡ true → x ≡ y)
        (same_refl : (x : A) → same x x ≡ true) (counted : Counts (graph (circuit t n)) f first total)
        {r : ℕ → A} (reads : (s : ℕ → A) → Stands L 0 n s cells → (v : ℕ) → v < n → r v ≡ s v)
        {changed : Bool}
        (e : changed ≡ not (all_below (stays_at (circuit t n) f same r) (length (register_list (circuit t n))))) where
      agree : Agree (graph (circuit t n)) r (after (graph (circuit t n)) f count first)
      agree v h = reads _ run.holds.stands v (omega (arith, circuit_length t n))

      -- a round that changes a register is one of those counted
      pub still_running : not changed ≡ false → count < total
      still_running q =
          not_stopped laws same_eq same_refl counted agree run.few (not-true _ (sym e ∙ not-false changed q))

      -- one that changes none is the first after them
      pub run_stopped : not changed ≡ true → count ≡ total
      run_stopped q =
          stopped_here laws same_eq same_refl counted agree run.few (not-false _ (sym e ∙ not-true changed q))

-- Every marked variable of the least closed store has a row: were there none from v, what is marked and reached from it
-- could be lowered to open, and the store would still be closed.
-- Assumes nothing.
use mathlib.Core.Path.{◌≡◌, refl, subst}
use mathlib.Core.Bool.{Bool, true, false, not, cond, ◌&&◌}
use mathlib.Core.List.{List, [], ◌∷◌, ◌++◌}
use Prim.Native.Nat.{ℕ, ◌<◌}
use native.Mathlib.Omega.{arith}
use lib.Dec.{T, eqb, eqb→eq}
use lib.ListN.{length}
use Rattle.net.specs.Tests.{member, any_below}
use Rattle.net.specs.Net.{Graph, Closed}
use Rattle.net.specs.Loop.{Uses}
use Rattle.net.specs.Reach.{is_in, reached_set, ClosedUnderUses}
use Rattle.net.proofs.Bools.{T_of, of_T, by_test, not_both, cond_case, and_left, and_right, and_both, passes_below, any_of, member_1, member_2, member_3, or_cases}
use Rattle.net.proofs.Reach.{reached_closed, reached_least}
use Rattle.circuit.specs.declared.record.InputKind.TheVariants.{Fixed, Free, Secret}
use Rattle.circuit.specs.declared.record.Record.{Record}
use Rattle.circuit.specs.declared.record.Record.TheVariants.{Input, Constant, Operator, Multiplexer, Register, Enabled}
use Rattle.circuit.specs.Record.{input_of}
use Rattle.circuit.specs.Circuit.{Circuit, record_of, graph}
use Rattle.circuit.proofs.Tables.{Inside}
use Rattle.fact.specs.declared.Fact.{Fact}
use Rattle.fact.specs.declared.Fact.TheVariants.{Always, Open, Marked}
use Rattle.fact.specs.Fact.{◌⊑◌, itself, always_open, open_marked}
use Rattle.fact.specs.Rule.{operator_rule, multiplexer_rule, zero_decides, rule_of, rule}
use Rattle.fact.specs.TwoRuns.{is_secret}
use Rattle.fact.specs.Certificate.{LeastStore}
use Rattle.fact.proofs.Order.{⊑_of_eq, ⊑_trans, narrow_mono, operator_mono, multiplexer_mono, register_mono, enabled_mono}
use Rattle.fact.proofs.Certificate.{rule_mono}
use Rattle.path.specs.Row.{multiplexer_uses, uses_under, is_marked, secret, Under, Row}
use Rattle.path.proofs.Rows.{under_uses, Walk, start, onward, walk_row}

-- ---- a rule whose uses are at most open gives at most open

pub marked_is : (f : Fact) → T (is_marked f) → f ≡ Marked
marked_is (Always n) t = absurd t
marked_is Open t = absurd t
marked_is Marked t = refl

unmarked_below : (f : Fact) → T (not (is_marked f)) → f ⊑ Open
unmarked_below (Always n) t = always_open
unmarked_below Open t = itself
unmarked_below Marked t = absurd t

marked_open : {P : Type 0} → Marked ⊑ Open → P
marked_open h = elim h [ ]

module _ (s s' : ℕ → Fact) (known : (u m : ℕ) → s u ≡ Always m → s' u ≡ Always m) where
  operator_unmarked : (op : _) (w : ℕ) {x y : Fact} → x ⊑ Open → y ⊑ Open → operator_rule op w x y ⊑ Open
  operator_unmarked op w h k =
      ⊑_trans (operator_mono op w h k)
      (cond_case (λ f. f ⊑ Open) (zero_decides op false false) (λ _. always_open) (λ _. itself))

  multiplexer_unmarked : (w a b c : ℕ) (f : Fact) → s a ≡ f
      → ((u : ℕ) → T (member u (multiplexer_uses f a b c)) → s' u ⊑ Open)
      → multiplexer_rule w (s' a) (s' b) (s' c) ⊑ Open
  multiplexer_unmarked w a b c (Always m) e h =
      rw (known a m e)
      (cond_case (λ f. f ⊑ Open) (eqb m 0)
      (λ z. narrow_mono w (rw z at (h (cond (eqb m 0) c b) (member_2 _ _ _))))
      (λ z. narrow_mono w (rw z at (h (cond (eqb m 0) c b) (member_2 _ _ _)))))
  multiplexer_unmarked w a b c Open e h =
      multiplexer_mono w (h a (member_1 _ _)) (h b (member_2 _ _ _)) (h c (member_3 _ _ _ _))
  multiplexer_unmarked w a b c Marked e h =
      multiplexer_mono w (h a (member_1 _ _)) (h b (member_2 _ _ _)) (h c (member_3 _ _ _ _))

  rule_unmarked : (r : Record) → T (not (is_secret (input_of r)))
      → ((u : ℕ) → T (member u (uses_under s r)) → s' u ⊑ Open) → rule_of r s' ⊑ Open
  unfolding rule_of
  rule_unmarked (Input w (Fixed n)) q h = cond_case (λ f. f ⊑ Open) (eqb n 0) (λ _. always_open) (λ _. itself)
  rule_unmarked (Input w Free) q h = itself
  rule_unmarked (Input w Secret) q h = absurd q
  rule_unmarked (Constant w n) q h = always_open
  rule_unmarked (Operator w op a b) q h = operator_unmarked op w (h a (member_1 _ _)) (h b (member_2 _ _ _))
  rule_unmarked (Multiplexer w a b c) q h = multiplexer_unmarked w a b c (s a) refl h
  rule_unmarked (Register w a n) q h = register_mono w n (h a (member_1 _ _))
  rule_unmarked (Enabled w a b n) q h = enabled_mono w n (h a (member_1 _ _)) (h b (member_2 _ _ _))

-- a secret input's rule is marked
secret_rule : (r : Record) (s : ℕ → Fact) → T (is_secret (input_of r)) → rule_of r s ≡ Marked
unfolding rule_of
secret_rule (Input w (Fixed n)) s t = absurd t
secret_rule (Input w Free) s t = absurd t
secret_rule (Input w Secret) s t = refl
secret_rule (Constant w n) s t = absurd t
secret_rule (Operator w op a b) s t = absurd t
secret_rule (Multiplexer w a b c) s t = absurd t
secret_rule (Register w a n) s t = absurd t
secret_rule (Enabled w a b n) s t = absurd t

marked_top : (f : Fact) → Marked ⊑ f → f ≡ Marked
marked_top (Always n) h = elim h [ ]
marked_top Open h = elim h [ ]
marked_top Marked h = refl

-- ---- what is reached from v over marked variables

pub member_some : (u : ℕ) (l : List ℕ) → T (member u l) → 0 < length l
unfolding member
member_some u [] m = absurd m
member_some u (x ∷ xs) m = omega arith

pub member_only : (u v : ℕ) → T (member u (v ∷ [])) → u ≡ v
unfolding member
member_only u v m = or_cases (eqb u v) false m (eqb→eq u v) (λ k. absurd k)

module _ (c : Circuit) (inside : Inside c) (s : ℕ → Fact) (least : LeastStore c s) (v : ℕ) (below : v < length c)
    (is : s v ≡ Marked) where
  -- what a marked variable uses
  abbrev onwards : Graph
  onwards = record {
    size = length c;
    role = (graph c).role;
    uses = λ u. elim (is_marked (s u)) [ true ↦ uses_under s (record_of c u) | false ↦ [] ];
  }

  abbrev reached : ℕ → Bool
  reached u = is_in (reached_set onwards (v ∷ [])) u

  onwards_under : (u x : ℕ) → Uses onwards u x → (s u ≡ Marked) × Under c s u x
  unfolding member
  onwards_under u x m = go (is_marked (s u)) refl m
    where
      go : (b : Bool) → is_marked (s u) ≡ b
          → T (member x (elim b [ true ↦ uses_under s (record_of c u) | false ↦ [] ])) → (s u ≡ Marked) × Under c s u x
      go true e t = (marked_is (s u) (T_of _ e), t)
      go false e t = absurd t

  under_onwards : (u x : ℕ) → s u ≡ Marked → Under c s u x → Uses onwards u x
  under_onwards u x e t = rw (onwards, e) t

  -- a marked one that is reached has a walk to it
  Reachable : ℕ → Type 0
  Reachable u = s u ≡ Marked → (row : List ℕ) × Walk c s v u row

  reachable : ClosedUnderUses onwards (v ∷ []) Reachable
  unfolding Reachable
  reachable =
      record {
        has = λ u h m e. rw (member_only u v m) (v ∷ [], start below is);
        closed = λ u x h p l m e.
            let (marked, under) = onwards_under u x m in
            let (row, walk) = p marked in
            (row ++ (x ∷ []), onward walk under l e);
      }

  -- the store with what is reached and marked lowered to open
  abbrev lowers : ℕ → Bool
  lowers u = reached u && is_marked (s u)

  lowered : ℕ → Fact
  lowered u = cond (lowers u) Open (s u)

  lowered_is : (u : ℕ) → T (lowers u) → lowered u ≡ Open
  unfolding lowered
  lowered_is u t = rw (of_T (lowers u) t)

  lowered_below : (u : ℕ) → lowered u ⊑ s u
  unfolding lowered
  lowered_below u =
      cond_case (λ f. f ⊑ s u) (lowers u)
      (λ e. rw (marked_is (s u) (and_right (reached u) (is_marked (s u)) (T_of _ e))) open_marked)
      (λ _. itself)

  lowered_known : (u m : ℕ) → s u ≡ Always m → lowered u ≡ Always m
  unfolding lowered
  lowered_known u m e =
      cond_case (λ f. f ≡ Always m) (lowers u)
      (λ z. absurd (rw e at (and_right (reached u) (is_marked (s u)) (T_of _ z))))
      (λ _. e)

  -- what is reached is at most open then
  lowered_reached : (u : ℕ) → T (reached u) → lowered u ⊑ Open
  unfolding lowered
  lowered_reached u t =
      by_test (is_marked (s u))
      (λ m. ⊑_of_eq (lowered_is u (and_both (reached u) (is_marked (s u)) t m)))
      (λ m. ⊑_trans (lowered_below u) (unmarked_below (s u) m))

  abbrev secret_reached : ℕ → Bool
  secret_reached u = reached u && secret c u

  lowered_closed : T (not (any_below secret_reached (length c))) → Closed (graph c) (rule c) ◌⊑◌ lowered
  unfolding lowered rule
  lowered_closed none u h = by_test (lowers u) low kept
    where
      kept : T (not (lowers u)) → rule c lowered u ⊑ lowered u
      kept t =
          cond_case (λ f. rule c lowered u ⊑ f) (lowers u)
          (λ e. not_both (lowers u) (T_of _ e) t)
          (λ _. ⊑_trans (rule_mono (record_of c u) lowered s (λ x _. lowered_below x)) (least.0 u h))

      low : T (lowers u) → rule c lowered u ⊑ lowered u
      low t =
          let marked = marked_is (s u) (and_right (reached u) (is_marked (s u)) t) in
          let here = and_left (reached u) (is_marked (s u)) t in
          rw (lowered_is u t)
          (rule_unmarked s lowered lowered_known (record_of c u)
          (by_test (secret c u)
          (λ q. not_both (any_below secret_reached (length c))
          (any_of secret_reached (length c) u h (and_both (reached u) (secret c u) here q)) none)
          (λ q. q))
          (λ x m. lowered_reached x
          ((reached_closed onwards (v ∷ [])).closed u x h here (inside u x h (under_uses c s u x m))
          (under_onwards u x marked m))))

  pub marked_has_row : (row : List ℕ) × Row c s v row
  unfolding rule Reachable
  marked_has_row = by_test (any_below secret_reached (length c)) found none
    where
      found : T (any_below secret_reached (length c)) → (row : List ℕ) × Row c s v row
      found t =
          let (u, h, q) = passes_below secret_reached (length c) t in
          let secret-here = and_right (reached u) (secret c u) q in
          let marked = marked_top (s u) (subst (λ f. f ⊑ s u) (secret_rule (record_of c u) s secret-here)
          (least.0 u h)) in
          let (row, walk) = reached_least onwards (v ∷ []) Reachable reachable u (and_left (reached u) (secret c u) q)
          marked in
          (row, walk_row walk secret-here)

      none : T (not (any_below secret_reached (length c))) → (row : List ℕ) × Row c s v row
      none t =
          marked_open (subst (λ f. f ⊑ Open) is
          (⊑_trans (least.1 lowered (lowered_closed t) v below)
          (lowered_reached v ((reached_closed onwards (v ∷ [])).has v below (member_1 v [])))))

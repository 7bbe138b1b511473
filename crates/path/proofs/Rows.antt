-- Rows: the shortest and lowest is the only one, a record's uses under a store are uses, and a walk to a secret input
-- is a row.
-- Assumes nothing.
use mathlib.Core.Path.{◌≡◌, refl, sym, ap, ◌∙◌, subst}
use mathlib.Core.Bool.{Bool, true, false, cond, ◌||◌}
use mathlib.Core.List.{List, [], ◌∷◌, ◌++◌}
use Prim.Native.Nat.{ℕ, zero, suc, ◌+◌, ◌-◌, ◌<◌}
use native.Mathlib.Nat.{not-suc-le-zero, add-zero}
use native.Mathlib.Omega.{arith}
use lib.Dec.{T, eqb}
use lib.ListN.{length, get_or, length-append, get_or-append}
use lib.Seq.{ext_get_or, get_or-append-add}
use Rattle.net.specs.Tests.{member}
use Rattle.net.specs.Loop.{Uses}
use Rattle.net.proofs.Bools.{or_cases, or_left, or_right}
use Rattle.net.proofs.Cases.{by_same}
use Rattle.circuit.specs.declared.record.Record.{Record}
use Rattle.circuit.specs.declared.record.Record.TheVariants.{Input, Constant, Operator, Multiplexer, Register, Enabled}
use Rattle.circuit.specs.Record.{uses}
use Rattle.circuit.specs.Circuit.{Circuit, record_of, graph}
use Rattle.fact.specs.declared.Fact.{Fact}
use Rattle.fact.specs.declared.Fact.TheVariants.{Always, Open, Marked}
use Rattle.path.specs.Row.{multiplexer_uses, uses_under, secret, Under, Row, PathOf}

-- ---- the only one

pub path_unique : {c : Circuit} {s : ℕ → Fact} {v : ℕ} {row row' : List ℕ} → PathOf c s v row → PathOf c s v row'
    → row ≡ row'
path_unique {row = row} {row'} p q = ext_get_or 0 row row' same (λ i l. upto (i + 1) i (omega arith) l)
  where
    same : length row ≡ length row'
    same = omega (arith, p.shortest row' q.is_row, q.shortest row p.is_row)

    upto : (k i : ℕ) → i < k → i < length row → get_or row i 0 ≡ get_or row' i 0
    upto zero i h l = absurd (not-suc-le-zero h)
    upto (suc k) i h l =
        omega (
          arith,
          p.lowest row' q.is_row (sym same) i l (λ j g. sym (upto k j (omega arith) (omega arith))),
          q.lowest row p.is_row same i (omega (arith, same)) (λ j g. upto k j (omega arith) (omega arith)),
        )

-- ---- uses under a store

module _ (a b c : ℕ) where
  arm_used : (m u : ℕ) → T (member u (a ∷ cond (eqb m 0) c b ∷ [])) → T (member u (a ∷ b ∷ c ∷ []))
  unfolding member
  arm_used m u = go (eqb m 0)
    where
      go : (z : Bool) → T (member u (a ∷ cond z c b ∷ [])) → T (member u (a ∷ b ∷ c ∷ []))
      go true t =
          or_cases (eqb u a) (eqb u c || false) t (or_left (eqb u a) (eqb u b || (eqb u c || false)))
          (λ k. or_right (eqb u a) (eqb u b || (eqb u c || false)) (or_right (eqb u b) (eqb u c || false) k))
      go false t =
          or_cases (eqb u a) (eqb u b || false) t (or_left (eqb u a) (eqb u b || (eqb u c || false)))
          (λ k. or_cases (eqb u b) false k
          (λ j. or_right (eqb u a) (eqb u b || (eqb u c || false)) (or_left (eqb u b) (eqb u c || false) j))
          (λ j. absurd j))

  arms_used : (f : Fact) (u : ℕ) → T (member u (multiplexer_uses f a b c)) → T (member u (a ∷ b ∷ c ∷ []))
  arms_used (Always m) u t = arm_used m u t
  arms_used Open u t = t
  arms_used Marked u t = t

under_used : (r : Record) (s : ℕ → Fact) (u : ℕ) → T (member u (uses_under s r)) → T (member u (uses r))
under_used (Input w k) s u t = t
under_used (Constant w n) s u t = t
under_used (Operator w op a b) s u t = t
under_used (Multiplexer w a b c) s u t = arms_used a b c (s a) u t
under_used (Register w a n) s u t = t
under_used (Enabled w a b n) s u t = t

-- a use under a store is a use
pub under_uses : (c : Circuit) (s : ℕ → Fact) (v u : ℕ) → Under c s v u → Uses (graph c) v u
under_uses c s v u = under_used (record_of c v) s u

-- ---- walks

-- a walk over marked variables from v to u, each a use of the one before
pub data Walk (c : Circuit) (s : ℕ → Fact) (v : ℕ) : ℕ → List ℕ → Type 0 where
  start : v < length c → s v ≡ Marked → Walk c s v v (v ∷ [])
  onward : {u x : ℕ} {row : List ℕ} → Walk c s v u row → Under c s u x → x < length c → s x ≡ Marked
      → Walk c s v x (row ++ (x ∷ []))

module _ (row : List ℕ) (x : ℕ) where
  pub longer : length (row ++ (x ∷ [])) ≡ length row + 1
  longer = length-append row (x ∷ [])

  pub at_before : (i : ℕ) → i < length row → get_or (row ++ (x ∷ [])) i 0 ≡ get_or row i 0
  at_before i h = get_or-append row (x ∷ []) 0 i h

  pub at_end : get_or (row ++ (x ∷ [])) (length row) 0 ≡ x
  at_end =
      ap (λ (i : ℕ). get_or (row ++ (x ∷ [])) i 0) (sym (add-zero (length row)))
      ∙ get_or-append-add row (x ∷ []) 0 0

-- what holds of a walk's row
record Walked (c : Circuit) (s : ℕ → Fact) (v u : ℕ) (row : List ℕ) : Type 0 where
  some : 0 < length row
  first : get_or row 0 0 ≡ v
  marked : (i : ℕ) → i < length row → (get_or row i 0 < length c) × (s (get_or row i 0) ≡ Marked)
  next : (i : ℕ) → i + 1 < length row → Under c s (get_or row i 0) (get_or row (i + 1) 0)
  end : get_or row (length row - 1) 0 ≡ u

walked_start : (c : Circuit) (s : ℕ → Fact) (v : ℕ) → v < length c → s v ≡ Marked → Walked c s v v (v ∷ [])
walked_start c s v h m =
    record {
      some = omega arith;
      first = refl;
      marked = λ i l. only i l;
      next = λ i l. absurd (omega arith);
      end = refl;
    }
  where
    only : (i : ℕ) → i < length (v ∷ []) → (get_or (v ∷ []) i 0 < length c) × (s (get_or (v ∷ []) i 0) ≡ Marked)
    only zero l = (h, m)
    only (suc i) l = absurd (omega arith)

module _ {c : Circuit} {s : ℕ → Fact} {v u x : ℕ} {row : List ℕ} (w : Walked c s v u row) (d : Under c s u x)
    (below : x < length c) (is : s x ≡ Marked) where
  abbrev long : List ℕ
  long = row ++ (x ∷ [])

  walked_onward : Walked c s v x long
  walked_onward =
      record {
        some = omega (arith, longer row x);
        first = at_before row x 0 w.some ∙ w.first;
        marked = marked;
        next = next;
        end = ap (λ (i : ℕ). get_or long i 0) place ∙ at_end row x;
      }
    where
      place : length long - 1 ≡ length row
      place = omega (arith, longer row x)

      marked : (i : ℕ) → i < length long → (get_or long i 0 < length c) × (s (get_or long i 0) ≡ Marked)
      marked i l =
          by_same i (length row)
          (λ e. rw (e, at_end row x) (below, is))
          (λ ne. rw (at_before row x i (omega (arith, longer row x))) (w.marked i (omega (arith, longer row x))))

      next : (i : ℕ) → i + 1 < length long → Under c s (get_or long i 0) (get_or long (i + 1) 0)
      next i l =
          by_same (i + 1) (length row)
          (λ e.
          let before : i ≡ length row - 1 = omega arith in
          rw (at_before row x i (omega arith), e, at_end row x, before, w.end) d)
          (λ ne.
          let h : i + 1 < length row = omega (arith, longer row x) in
          rw (at_before row x i (omega arith), at_before row x (i + 1) h) (w.next i h))

walk_walked : {c : Circuit} {s : ℕ → Fact} {v u : ℕ} {row : List ℕ} → Walk c s v u row → Walked c s v u row
walk_walked {c} {s} {v} (start h m) = walked_start c s v h m
walk_walked (onward w d h m) = walked_onward (walk_walked w) d h m

-- a walk to a secret input is a row
pub walk_row : {c : Circuit} {s : ℕ → Fact} {v u : ℕ} {row : List ℕ} → Walk c s v u row → T (secret c u)
    → Row c s v row
walk_row {c} p t =
    let w = walk_walked p in
    record {
      some = w.some;
      first = w.first;
      marked = w.marked;
      next = w.next;
      last = subst (λ (x : ℕ). T (secret c x)) (sym w.end) t;
    }

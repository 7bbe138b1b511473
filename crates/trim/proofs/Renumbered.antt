-- One record, renumbered: what it is stays, what it uses is renumbered, and what it gives from a store along a map that
-- leads back is what it gave.
-- Assumes nothing.
use mathlib.Core.Path.{◌≡◌, refl, sym}
use mathlib.Core.List.{List, [], ◌∷◌, map}
use Prim.Native.Nat.{ℕ, zero, suc, ◌<◌}
use native.Mathlib.Nat.{not-suc-le-zero, le_of_suc-le-suc}
use lib.Dec.{T, eqb, eqb→eq}
use lib.ListN.{length, get_or}
use Rattle.net.specs.Tests.{member}
use Rattle.net.proofs.Bools.{or_cases, or_right, member_1, member_2, member_3}
use Rattle.circuit.specs.declared.record.Record.{Record}
use Rattle.circuit.specs.declared.record.Record.TheVariants.{Input, Constant, Operator, Multiplexer, Register, Enabled}
use Rattle.circuit.specs.Record.{width, role, uses, renumber}
use Rattle.circuit.specs.Reading.{encode}
use Rattle.circuit.specs.Machine.{value, initial}
use Rattle.fact.specs.declared.Fact.{Fact}
use Rattle.fact.specs.Rule.{rule_of}
use Rattle.fact.specs.Certificate.{initial_fact}

-- ---- lists

-- what stands at a place of a mapped list
pub get_or_map : {A B : Type 0} (f : A → B) (l : List A) (i : ℕ) (d : A) (e : B) → i < length l
    → get_or (map f l) i e ≡ f (get_or l i d)
get_or_map f [] i d e h = absurd (not-suc-le-zero h)
get_or_map f (x ∷ xs) zero d e h = refl
get_or_map f (x ∷ xs) (suc i) d e h = get_or_map f xs i d e (le_of_suc-le-suc h)

-- a number of a mapped list is what a number of the list is mapped to
pub member_map : (f : ℕ → ℕ) (l : List ℕ) (u : ℕ) → T (member u (map f l)) → (v : ℕ) × T (member v l) × (f v ≡ u)
unfolding member
member_map f [] u m = absurd m
member_map f (x ∷ xs) u m =
    or_cases (eqb u (f x)) (member u (map f xs)) m
    (λ e. (x, member_1 x xs, sym (eqb→eq u (f x) e)))
    (λ k. let (v, m', e) = member_map f xs u k in (v, or_right (eqb v x) (member v xs) m', e))

-- ---- what the record is

module _ (new : ℕ → ℕ) where
  -- its role stays
  pub renumber_role : (r : Record) → role (renumber new r) ≡ role r
  renumber_role (Input w k) = refl
  renumber_role (Constant w n) = refl
  renumber_role (Operator w op a b) = refl
  renumber_role (Multiplexer w a b c) = refl
  renumber_role (Register w a n) = refl
  renumber_role (Enabled w a b n) = refl

  -- its width
  pub renumber_width : (r : Record) → width (renumber new r) ≡ width r
  renumber_width (Input w k) = refl
  renumber_width (Constant w n) = refl
  renumber_width (Operator w op a b) = refl
  renumber_width (Multiplexer w a b c) = refl
  renumber_width (Register w a n) = refl
  renumber_width (Enabled w a b n) = refl

  -- the value among its numbers
  pub renumber_value : (r : Record) → (encode (renumber new r)).value ≡ (encode r).value
  renumber_value (Input w k) = refl
  renumber_value (Constant w n) = refl
  renumber_value (Operator w op a b) = refl
  renumber_value (Multiplexer w a b c) = refl
  renumber_value (Register w a n) = refl
  renumber_value (Enabled w a b n) = refl

  -- what it holds at power-on
  pub renumber_initial : (r : Record) → initial (renumber new r) ≡ initial r
  renumber_initial (Input w k) = refl
  renumber_initial (Constant w n) = refl
  renumber_initial (Operator w op a b) = refl
  renumber_initial (Multiplexer w a b c) = refl
  renumber_initial (Register w a n) = refl
  renumber_initial (Enabled w a b n) = refl

  -- its fact before any round
  pub renumber_fact : (r : Record) → initial_fact (renumber new r) ≡ initial_fact r
  renumber_fact (Input w k) = refl
  renumber_fact (Constant w n) = refl
  renumber_fact (Operator w op a b) = refl
  renumber_fact (Multiplexer w a b c) = refl
  renumber_fact (Register w a n) = refl
  renumber_fact (Enabled w a b n) = refl

  -- and what it uses is renumbered
  pub renumber_uses : (r : Record) → uses (renumber new r) ≡ map new (uses r)
  renumber_uses (Input w k) = refl
  renumber_uses (Constant w n) = refl
  renumber_uses (Operator w op a b) = refl
  renumber_uses (Multiplexer w a b c) = refl
  renumber_uses (Register w a n) = refl
  renumber_uses (Enabled w a b n) = refl

-- ---- what the record gives, where the map `old` leads back from the new numbers of what it uses

module _ (new old : ℕ → ℕ) where
  -- from numbers
  pub renumbered_value : (r : Record) (m : ℕ → ℕ) (own : ℕ) → ((u : ℕ) → T (member u (uses r)) → old (new u) ≡ u)
      → value (renumber new r) (λ u. m (old u)) own ≡ value r m own
  unfolding value
  renumbered_value (Input w k) m own back = refl
  renumbered_value (Constant w n) m own back = refl
  renumbered_value (Operator w op a b) m own back = rw (back a (member_1 _ _), back b (member_2 _ _ _))
  renumbered_value (Multiplexer w a b c) m own back =
      rw (back a (member_1 _ _), back b (member_2 _ _ _), back c (member_3 _ _ _ _))
  renumbered_value (Register w a n) m own back = rw (back a (member_1 _ _))
  renumbered_value (Enabled w a b n) m own back = rw (back a (member_1 _ _), back b (member_2 _ _ _))

  -- from facts
  pub renumbered_rule : (r : Record) (s : ℕ → Fact) → ((u : ℕ) → T (member u (uses r)) → old (new u) ≡ u)
      → rule_of (renumber new r) (λ u. s (old u)) ≡ rule_of r s
  unfolding rule_of
  renumbered_rule (Input w k) s back = refl
  renumbered_rule (Constant w n) s back = refl
  renumbered_rule (Operator w op a b) s back = rw (back a (member_1 _ _), back b (member_2 _ _ _))
  renumbered_rule (Multiplexer w a b c) s back =
      rw (back a (member_1 _ _), back b (member_2 _ _ _), back c (member_3 _ _ _ _))
  renumbered_rule (Register w a n) s back = rw (back a (member_1 _ _))
  renumbered_rule (Enabled w a b n) s back = rw (back a (member_1 _ _), back b (member_2 _ _ _))

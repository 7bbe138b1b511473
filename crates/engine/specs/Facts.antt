-- That an order of wires is a fact: there is one way at most in which a list is an order. For the invariant of a plan.
-- Assumes nothing.
use Rattle.std.proofs.Common.{◌≡◌, ℕ, ◌<◌, List, length, get_or, ap₂, sym, ◌∙◌, subst, arith}
use Rattle.std.proofs.Props.{props}
use Rattle.circuit.specs.Circuit.{Circuit}
use Rattle.schedule.specs.Schedule.{Ordered}

-- a number of which two facts hold, and which they tell, is there in one way at most
one_only : (P Q : ℕ → Type 0) → ((i : ℕ) → IsProp (P i)) → ((i : ℕ) → IsProp (Q i))
    → ((i j : ℕ) → P i → Q i → P j → Q j → i ≡ j) → IsProp ((i : ℕ) × P i × Q i)
one_only P Q fact fact' same (i, p, p') (j, q, q') =
    subst (λ (k : ℕ). (r : P k) (r' : Q k) → ◌≡◌ {A = (m : ℕ) × P m × Q m} (i, p, p') (k, r, r')) (same i j p p' q q')
    (λ r r'. ap₂ (λ (x : P i) (y : Q i). (i, x, y)) (fact i p r) (fact' i p' r')) q q'

module _ (c : Circuit) (order : List ℕ) (ordered : Ordered c order) where
  place_fact : (v : ℕ) → IsProp ((i : ℕ) × (i < length order) × (get_or order i 0 ≡ v))
  place_fact v =
      one_only (λ i. i < length order) (λ i. get_or order i 0 ≡ v) (λ i. hlevel props) (λ i. hlevel props)
      (λ i j p e q e'. ordered.distinct i j p q (e ∙ sym e'))

  earlier_fact : (k v : ℕ) → k < length order → IsProp ((i : ℕ) × (i < k) × (get_or order i 0 ≡ v))
  earlier_fact k v h =
      one_only (λ i. i < k) (λ i. get_or order i 0 ≡ v) (λ i. hlevel props) (λ i. hlevel props)
      (λ i j p e q e'. ordered.distinct i j (omega arith) (omega arith) (e ∙ sym e'))

pub ordered_fact : (c : Circuit) (order : List ℕ) → IsProp (Ordered c order)
ordered_fact c order ordered =
    let fact : IsProp (Ordered c order) = hlevel (props, place_fact c order ordered, earlier_fact c order ordered) in
    fact ordered

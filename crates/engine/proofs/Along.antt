-- What an order is for: wires that take their values one after the other along it, each once, end in the settled
-- store. Over any type of values.
-- Assumes nothing.
use mathlib.Core.Path.{◌≡◌, refl, sym, ap, ◌∙◌}
use mathlib.Core.List.{List}
use Prim.Native.Nat.{ℕ, zero, suc, ◌≤◌, ◌<◌}
use native.Mathlib.Nat.{not-suc-le-zero, le_refl}
use native.Mathlib.Omega.{arith}
use lib.ListN.{length, get_or}
use Rattle.net.specs.Net.{wire, put, settle, Settled}
use Rattle.net.specs.Loop.{Uses}
use Rattle.net.proofs.Cases.{by_same}
use Rattle.net.proofs.Put.{put_same, put_other}
use Rattle.net.proofs.Settle.{input_wire, wire_register, Local, settle_unique}
use Rattle.circuit.specs.Record.{role}
use Rattle.circuit.specs.Circuit.{Circuit, record_of, graph}
use Rattle.circuit.proofs.Tables.{Inside}
use Rattle.schedule.specs.Schedule.{Ordered}
use Rattle.schedule.proofs.Orders.{ordered_ranked}

-- ---- the store after k wires of the order

module _ {A : Type 0} (f : (ℕ → A) → ℕ → A) (order : List ℕ) where
  -- the first k wires of the order have taken their values, one after the other
  unfoldable pub along : ℕ → (ℕ → A) → ℕ → A
  unfolding put
  along zero s = s
  along (suc k) s = put (along k s) (get_or order k 0) (f (along k s) (get_or order k 0))

  along_here : (k : ℕ) (s : ℕ → A) → along (suc k) s (get_or order k 0) ≡ f (along k s) (get_or order k 0)
  unfolding along
  along_here k s = put_same (along k s) (get_or order k 0) (f (along k s) (get_or order k 0))

  along_elsewhere : (k : ℕ) (s : ℕ → A) (v : ℕ) → (v ≡ get_or order k 0 → ⊥) → along (suc k) s v ≡ along k s v
  unfolding along
  along_elsewhere k s v ne = put_other (along k s) (get_or order k 0) (f (along k s) (get_or order k 0)) v ne

-- ---- the store after all wires

module _ {A : Type 0} (c : Circuit) (order : List ℕ) (ordered : Ordered c order) (f : (ℕ → A) → ℕ → A)
    (local : Local (graph c) f) (s : ℕ → A) where
  -- what is no wire stays as it was
  along_other : (v : ℕ) → (role (record_of c v) ≡ wire → ⊥) → (k : ℕ) → k ≤ length order → along f order k s v ≡ s v
  unfolding along
  along_other v other zero l = refl
  along_other v other (suc k) l =
      along_elsewhere f order k s v (λ e. other (rw e (ordered.wires k l).1)) ∙ along_other v other k (omega arith)

  -- a wire at place k or before it does not use the wire at place k
  unused : (k j u : ℕ) → k < length order → j ≤ k → Uses (graph c) (get_or order j 0) u → u ≡ get_or order k 0 → ⊥
  unused k j u l h uses e =
      let (i, li, q) = ordered.after j u (omega arith) uses (rw e (ordered.wires k l).1) in
      let same : i ≡ k = ordered.distinct i k (omega arith) l (q ∙ e) in
      omega arith

  -- the first k wires satisfy their rules
  along_met : (k : ℕ) → k ≤ length order → (j : ℕ) → j < k
      → along f order k s (get_or order j 0) ≡ f (along f order k s) (get_or order j 0)
  along_met zero l j h = absurd (not-suc-le-zero h)
  along_met (suc k) l j h =
      let w = ordered.wires j (omega arith) in
      let same : f (along f order k s) (get_or order j 0) ≡ f (along f order (suc k) s) (get_or order j 0) =
      local (along f order k s) (along f order (suc k) s) (get_or order j 0) w.0 w.1
      (λ u uses. sym (along_elsewhere f order k s u (unused k j u l (omega arith) uses))) in
      by_same j k
      (λ q. rw (ap (λ (x : ℕ). get_or order x 0) (sym q)) at (along_here f order k s) ∙ same)
      (λ ne.
      let apart : get_or order j 0 ≡ get_or order k 0 → ⊥ = λ e. ne (ordered.distinct j k (omega arith) l e) in
      along_elsewhere f order k s (get_or order j 0) apart ∙ along_met k (omega arith) j (omega arith) ∙ same)

  along_settled : Settled (graph c) f (along f order (length order) s)
  along_settled v l w =
      let (i, li, e) = ordered.all v l w in
      rw (sym e) (along_met (length order) (le_refl _) i li)

  -- so it is the store in which the wires settle
  pub along_settle : Inside c → (v : ℕ) → v < length c → along f order (length order) s v ≡ settle (graph c) f s v
  along_settle inside =
      settle_unique (ordered_ranked c order inside ordered) f local s (along f order (length order) s) along_settled
      (λ v l e. along_other v (λ w. input_wire (sym e ∙ w)) (length order) (le_refl _))
      (λ v l e. along_other v (λ w. wire_register (sym w ∙ e)) (length order) (le_refl _))

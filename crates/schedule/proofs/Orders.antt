-- An order of a circuit's wires shows that there is no loop: what a wire of a loop uses next stands before it in the
-- order, and so on without end. So the circuit has a rank. And what stands in the scratch that the schedule leaves.
-- Assumes nothing.
use mathlib.Core.Path.{◌≡◌, sym, ap, ◌∙◌, subst}
use mathlib.Core.List.{List, ◌++◌, append_assoc}
use Prim.Native.Nat.{ℕ, zero, suc, ◌+◌, ◌-◌, ◌≤◌, ◌<◌}
use native.Mathlib.Nat.{not-suc-le-zero}
use native.Mathlib.Omega.{arith}
use lib.ListN.{length, get_or, take, drop, replicate, length-append, length-replicate, get_or-append}
use lib.Seq.{take_at, drop_at, get_or-append-add}
use Rattle.net.specs.Loop.{Uses, Loop}
use Rattle.net.proofs.Settle.{Ranked}
use Rattle.circuit.specs.Circuit.{Circuit, graph, NoLoop}
use Rattle.circuit.proofs.Tables.{Inside, circuit_ranked}
use Rattle.schedule.specs.Schedule.{register_list, Listed, Ordered, IsOrder}
use Rattle.net.proofs.Cases.{by_same}

module _ (c : Circuit) (order : List ℕ) (ordered : Ordered c order) (row : List ℕ) (loop : Loop (graph c) row) where
  -- every wire of a loop uses a wire of the loop
  uses_next : (i : ℕ) → i < length row → (j : ℕ) × (j < length row) × Uses (graph c) (get_or row i 0) (get_or row j 0)
  uses_next i l =
      by_same (i + 1) (length row)
      (λ q. let e : length row - 1 ≡ i = omega arith in (0, loop.some, rw e at loop.back))
      (λ ne. let l' : i + 1 < length row = omega arith in (i + 1, l', loop.next i l'))

  -- no wire of a loop stands in the order at a place below k
  not_below : (k p i : ℕ) → p < k → p < length order → i < length row → get_or order p 0 ≡ get_or row i 0 → ⊥
  not_below zero p i h l l' e = absurd (not-suc-le-zero h)
  not_below (suc k) p i h l l' e =
      let (j, lj, uses) = uses_next i l' in
      let (q, lq, e') = ordered.after p (get_or row j 0) l (rw e uses) (loop.wires j lj).1 in
      not_below k q j (omega arith) (omega arith) lj e'

pub ordered_no_loop : (c : Circuit) (order : List ℕ) → Ordered c order → NoLoop c
ordered_no_loop c order ordered row loop =
    let (below, wire) = loop.wires 0 loop.some in
    let (p, l, e) = ordered.all (get_or row 0 0) below wire in
    not_below c order ordered row loop (p + 1) p 0 (omega arith) l loop.some e

pub ordered_ranked : (c : Circuit) (order : List ℕ) → Inside c → Ordered c order → Ranked (graph c)
ordered_ranked c order inside ordered = circuit_ranked c inside (ordered_no_loop c order ordered)

-- ---- an order as the schedule leaves it

module _ {c : Circuit} {part : ℕ} {entry scratch : List ℕ} {wires registers : ℕ}
    (o : IsOrder c part entry scratch wires registers)
    (room : wires + registers ≤ part) where
  rest : List ℕ
  rest = register_list c ++ (replicate (part - (wires + registers)) 0 ++ drop part entry)

  pub order_taken : Ordered c (take wires scratch)
  unfolding rest
  order_taken =
      subst (λ (l : List ℕ). Ordered c l)
      (sym (ap (take wires) o.scratch ∙ take_at o.order rest wires o.order_length)) o.ordered

  pub order_listed : Listed c scratch wires
  unfolding rest
  order_listed j h =
      ap (λ (l : List ℕ). get_or l (wires + j) 0) o.scratch
      ∙ subst (λ (k : ℕ). get_or (o.order ++ rest) (k + j) 0 ≡ get_or rest j 0) o.order_length
      (get_or-append-add o.order rest j 0)
      ∙ get_or-append (register_list c) (replicate (part - (wires + registers)) 0 ++ drop part entry) 0 j h

  front : List ℕ
  front = o.order ++ (register_list c ++ replicate (part - (wires + registers)) 0)

  front_length : length front ≡ part
  unfolding front
  front_length =
      length-append o.order (register_list c ++ replicate (part - (wires + registers)) 0)
      ∙ omega (
        arith,
        length-append (register_list c) (replicate (part - (wires + registers)) 0),
        length-replicate {A = ℕ} (part - (wires + registers)) 0,
        o.order_length,
        o.registers_length,
      )

  whole : scratch ≡ front ++ drop part entry
  unfolding front
  whole = o.scratch ∙ simp append_assoc

  pub order_past : drop part scratch ≡ drop part entry
  order_past = ap (drop part) whole ∙ drop_at front (drop part entry) part front_length

  pub order_room : part ≤ length scratch
  order_room = omega (arith, ap length whole, length-append front (drop part entry), front_length)

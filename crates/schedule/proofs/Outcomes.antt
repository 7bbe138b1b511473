-- What stands in the scratch in the end: an order with the registers behind it, or a loop.
-- Assumes nothing.
use mathlib.Core.Path.{◌≡◌, sym, ap, ◌∙◌}
use mathlib.Core.List.{List, ◌++◌, append_assoc}
use Prim.Native.Nat.{ℕ, ◌+◌, ◌-◌, ◌≤◌, ◌<◌}
use native.Mathlib.Omega.{arith}
use lib.ListN.{length, get_or, take, drop, replicate, length-append, get_or-append}
use lib.Seq.{length-take-le, get_or-take, get_or-append-add}
use Rattle.circuit.specs.declared.table.Table.{Table}
use Rattle.circuit.specs.Tables.{circuit_of}
use Rattle.circuit.proofs.Tables.{circuit_length}
use Rattle.schedule.specs.Schedule.{register_list, IsOrder, IsLoop}
use Rattle.buffer.specs.Kept.{Kept, Filled}
use Rattle.schedule.specs.Shown.{Shown}
use Rattle.schedule.specs.Walk.{AllFinished, StackCloses}
use Rattle.net.proofs.Cases.{by_le}
use Rattle.buffer.proofs.Filled.{filled_zero, in_part}
use Rattle.schedule.proofs.Rotation.{shown_loop, shown_lowest}

module _ {t : Table} (part : ℕ) {s₀ s₁ s₂ s₃ : List ℕ} (enough : t.records + t.records ≤ part) (lent : part ≤ length s₀)
    (kept : Kept (t.records + t.records) s₀ s₁) where
  -- the walk finished all wires, the registers were added, and the rest of the part was cleared
  pub order_stands : {wires registers : ℕ} → AllFinished t s₁ wires
      → registers ≡ length (register_list (circuit_of t))
      → Filled wires registers (λ i. get_or (register_list (circuit_of t)) i 0) s₁ s₂
      → Filled (wires + registers) (part - (wires + registers)) (λ _. 0) s₂ s₃
      → IsOrder (circuit_of t) part s₀ s₃ wires registers
  order_stands {wires} {registers} all count added cleared =
      let list : List ℕ = register_list (circuit_of t) in
      let order : List ℕ = take wires s₁ in
      let few : wires ≤ t.records = all.few in
      let room : wires + registers ≤ t.records = omega (arith, all.room) in
      let order_length : length order ≡ wires = length-take-le wires s₁ (omega (arith, kept.long)) in
      let size : length (order ++ list) ≡ wires + registers = omega (arith, length-append order list) in
      let front : (i : ℕ) → i < wires + registers → get_or s₃ i 0 ≡ get_or (order ++ list) i 0 = λ i l.
      cleared.before i l
      ∙ by_le wires i
      (λ h.
      let e : wires + (i - wires) ≡ i = omega arith in
      let e' : length order + (i - wires) ≡ i = omega arith in
      ap (λ (x : ℕ). get_or s₂ x 0) (sym e)
      ∙ added.here (i - wires) (omega arith)
      ∙ sym (get_or-append-add order list (i - wires) 0)
      ∙ ap (λ (x : ℕ). get_or (order ++ list) x 0) e')
      (λ h.
      added.before i h
      ∙ sym (get_or-append order list 0 i (omega arith) ∙ get_or-take wires s₁ i 0 h)) in
      record {
        order = order;
        ordered = all.ordered;
        order_length = order_length;
        registers_length = sym count;
        fits = omega (arith, circuit_length t.bytes.now t.records);
        scratch =
            in_part part (wires + registers) (order ++ list) s₀ s₃ size (omega arith) lent
            (cleared.long ∙ added.long ∙ kept.long)
            front
            (filled_zero (wires + registers) part s₂ s₃ cleared)
            (λ i l.
            cleared.beyond i (omega arith) ∙ added.beyond i (omega arith) ∙ kept.beyond i (omega arith))
            ∙ append_assoc order list (replicate (part - (wires + registers)) 0 ++ drop part s₀);
      }

  -- the stack closed a loop, the loop was shown, and the rest of the part was cleared
  pub loop_stands : {top u size : ℕ} → StackCloses t s₁ top u → Shown t.records top u s₁ s₂ size
      → Filled size (part - size) (λ _. 0) s₂ s₃ → IsLoop (circuit_of t) part s₀ s₃ size
  loop_stands {top} {u} {size} stack shown cleared =
      let row : List ℕ = take size s₂ in
      let few : size ≤ t.records = omega (arith, shown.size_is, shown.p_n) in
      let row_length : length row ≡ size = length-take-le size s₂ (omega (arith, kept.long, shown.kept.long)) in
      let is : (i : ℕ) → i < size → get_or row i 0 ≡ get_or s₂ i 0 = λ i l. get_or-take size s₂ i 0 l in
      record {
        row = row;
        loop = shown_loop t top u s₁ s₂ size stack shown row row_length is;
        lowest = shown_lowest t top u s₁ s₂ size stack shown row row_length is;
        row_length = row_length;
        scratch =
            in_part part size row s₀ s₃ row_length (omega arith) lent
            (cleared.long ∙ shown.kept.long ∙ kept.long)
            (λ i l. cleared.before i l ∙ sym (is i l))
            (filled_zero size part s₂ s₃ cleared)
            (λ i l.
            cleared.beyond i (omega arith) ∙ shown.kept.beyond i (omega arith) ∙ kept.beyond i (omega arith));
      }

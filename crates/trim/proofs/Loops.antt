-- A circuit without a loop has none when it is replaced by any store and trimmed, and so it has a rank: a loop of the
-- trimmed circuit, each variable by its old number, would be one of the circuit, as a wire that uses something is no
-- constant and so has its own record.
-- Assumes nothing.
use mathlib.Core.Path.{◌≡◌, sym, ap, ◌∙◌}
use mathlib.Core.List.{List, map}
use Prim.Native.Nat.{ℕ, ◌+◌, ◌-◌, ◌<◌}
use native.Mathlib.Omega.{arith}
use lib.ListN.{length, get_or, length-map}
use Rattle.net.specs.Net.{Graph, wire}
use Rattle.net.specs.Loop.{Uses, Loop}
use Rattle.net.proofs.Cases.{by_le}
use Rattle.net.proofs.Settle.{Ranked}
use Rattle.circuit.specs.Record.{role}
use Rattle.circuit.specs.Circuit.{Circuit, record_of, graph, NoLoop}
use Rattle.circuit.proofs.Tables.{Inside, circuit_ranked}
use Rattle.fact.specs.declared.Fact.{Fact}
use Rattle.trim.specs.Trimmed.{replaced, survivors, new_number, trimmed}
use Rattle.trim.proofs.Replaced.{used_stays, replaced_length, replaced_record, replaced_inside}
use Rattle.trim.proofs.Renumbered.{get_or_map, renumber_role}
use Rattle.trim.proofs.Survivors.{old_number, old_survives, old_injective}
use Rattle.trim.proofs.Survivors.{trimmed_length, trimmed_record, trimmed_uses, trimmed_inside}

module _ (c : Circuit) (s : ℕ → Fact) (kept : List ℕ) (inside : Inside c) where
  abbrev c₁ : Circuit
  c₁ = replaced c s

  abbrev g' : Graph
  g' = graph (trimmed c₁ kept)

  abbrev old : ℕ → ℕ
  old = old_number c₁ kept

  -- the trimmed circuit uses its variables alone
  pub trimmed_all_inside : Inside (trimmed c₁ kept)
  trimmed_all_inside = trimmed_inside c₁ kept (replaced_inside c s inside)

  -- a use of the trimmed circuit is one of the circuit, by a variable of the same role
  use_before : (j u : ℕ) → j < length (survivors c₁ kept) → Uses g' j u
      → Uses (graph c) (old j) (old u) × (g'.role j ≡ role (record_of c (old j)))
  use_before j u h used =
      let m = (trimmed_uses c₁ kept j h (replaced_inside c s inside) u used).1 in
      let is = replaced_record c s (old j) (omega (arith, (old_survives c₁ kept j h).0, replaced_length c s)) in
      let stays = is ∙ used_stays (s (old j)) (record_of c (old j)) (old u) (rw is at m) in (
        rw stays at m,
        ap role (trimmed_record c₁ kept j h) ∙ renumber_role (new_number c₁ kept) (record_of c₁ (old j)) ∙ ap role stays,
      )

  module _ (row : List ℕ) (loop : Loop g' row) where
    -- variable i of the loop, and by its old number
    abbrev x : ℕ → ℕ
    x i = get_or row i 0

    abbrev y : ℕ → ℕ
    y i = get_or (map old row) i 0

    same : length (map old row) ≡ length row
    same = length-map row old

    below : (i : ℕ) → i < length row → x i < length (survivors c₁ kept)
    below i h = rw (trimmed_length c₁ kept) at (loop.wires i h).0

    is_old : (i : ℕ) → i < length row → y i ≡ old (x i)
    is_old i h = get_or_map old row i 0 0 h

    -- a use along the loop
    use_old : (i j : ℕ) → i < length row → j < length row → Uses g' (x i) (x j) → Uses (graph c) (y i) (y j)
    use_old i j h k used = rw (is_old i h, is_old j k) (use_before (x i) (x j) (below i h) used).0

    -- each variable of the loop uses one
    next_use : (i : ℕ) → i < length row → (u : ℕ) × Uses g' (x i) u
    next_use i h =
        by_le (i + 2) (length row) (λ k. (x (i + 1), loop.next i (omega arith)))
        (λ k. let e : length row - 1 ≡ i = omega arith in (x 0, rw e at loop.back))

    wire_old : (i : ℕ) → i < length row → (y i < length c) × (role (record_of c (y i)) ≡ wire)
    wire_old i h =
        let (u, used) = next_use i h in
        rw (is_old i h) (
          omega (arith, (old_survives c₁ kept (x i) (below i h)).0, replaced_length c s),
          sym (use_before (x i) u (below i h) used).1 ∙ (loop.wires i h).1,
        )

    loop_old : Loop (graph c) (map old row)
    loop_old =
        record {
          some = rw same loop.some;
          wires = λ i h. wire_old i (rw same at h);
          distinct = λ i j h k e.
              let (h', k') : (i < length row) × (j < length row) = (rw same at h, rw same at k) in
              loop.distinct i j h' k'
              (old_injective c₁ kept (x i) (x j) (below i h') (below j k') (sym (is_old i h') ∙ e ∙ is_old j k'));
          next = λ i h.
              let k : i + 1 < length row = rw same at h in
              use_old i (i + 1) (omega arith) k (loop.next i k);
          back =
              rw same
              (use_old (length row - 1) 0 (omega (arith, loop.some)) loop.some loop.back);
        }

  -- it has no loop where the circuit has none
  pub trimmed_no_loop : NoLoop c → NoLoop (trimmed c₁ kept)
  trimmed_no_loop none row loop = none (map old row) (loop_old row loop)

  -- and so it has a rank
  pub trimmed_ranked : NoLoop c → Ranked g'
  trimmed_ranked none = circuit_ranked (trimmed c₁ kept) trimmed_all_inside (trimmed_no_loop none)

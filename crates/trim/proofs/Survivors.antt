-- The survivors and their numbers: new and old ones lead to each other and are in the same order, inputs and kept
-- variables survive and so does all that a survivor uses, and the trimmed circuit has the survivors' records.
-- Assumes nothing.
use mathlib.Core.Path.{◌≡◌, sym, ap, ◌∙◌}
use mathlib.Core.Bool.{true}
use mathlib.Core.List.{List}
use Prim.Native.Nat.{ℕ, ◌≤◌, ◌<◌}
use lib.Dec.{T}
use lib.ListN.{length, get_or, length-map}
use Rattle.net.specs.Tests.{member}
use Rattle.net.specs.Loop.{Uses}
use Rattle.net.specs.Reach.{is_in, reached_set}
use Rattle.net.proofs.Bools.{T_of, of_T, or_cases, or_left, or_right}
use Rattle.net.proofs.Chosen.{chosen_length, chosen_place, chosen_passes}
use Rattle.net.proofs.Chosen.{place_chosen, place_strict, place_most, chosen_ascends}
use Rattle.net.proofs.Reach.{reached_closed}
use Rattle.circuit.specs.Record.{uses, input_of, renumber}
use Rattle.circuit.specs.Circuit.{Circuit, record_of, graph}
use Rattle.circuit.specs.Stimuli.{is_input}
use Rattle.circuit.proofs.Tables.{Inside}
use Rattle.circuit.proofs.Stimuli.{input_record}
use Rattle.trim.specs.Trimmed.{survives, survivors, new_number, trimmed}
use Rattle.trim.proofs.Renumbered.{get_or_map, member_map, renumber_uses}

module _ (c : Circuit) (kept : List ℕ) where
  -- the old number of new record j
  abbrev pub old_number : ℕ → ℕ
  old_number j = get_or (survivors c kept) j 0

  -- ---- who survives

  -- every input
  pub inputs_survive : (v : ℕ) → is_input (input_of (record_of c v)) ≡ true → T (survives c kept v)
  unfolding survives
  inputs_survive v e = or_left (is_input (input_of (record_of c v))) (is_in (reached_set (graph c) kept) v) (T_of _ e)

  -- every kept variable
  pub kept_survive : (v : ℕ) → v < length c → T (member v kept) → T (survives c kept v)
  unfolding survives
  kept_survive v h m =
      or_right (is_input (input_of (record_of c v))) (is_in (reached_set (graph c) kept) v)
      ((reached_closed (graph c) kept).has v h m)

  -- and what a survivor uses
  pub uses_survive : Inside c → (v u : ℕ) → v < length c → T (survives c kept v) → Uses (graph c) v u
      → T (survives c kept u)
  unfolding survives member
  uses_survive inside v u h t used =
      or_cases (is_input (input_of (record_of c v))) (is_in (reached_set (graph c) kept) v) t
      (λ i. let (w, k, e) = input_record (record_of c v) (of_T _ i) in absurd (rw e at used))
      (λ r. or_right (is_input (input_of (record_of c u))) (is_in (reached_set (graph c) kept) u)
      ((reached_closed (graph c) kept).closed v u h r (inside v u h used) used))

  -- ---- numbers

  -- there are no more survivors than variables
  pub survivors_few : length (survivors c kept) ≤ length c
  unfolding survivors
  survivors_few = rw (chosen_length (survives c kept) (length c)) (place_most (survives c kept) (length c))

  -- the old number of a survivor's new number is the survivor
  pub old_new : (v : ℕ) → v < length c → T (survives c kept v) → old_number (new_number c kept v) ≡ v
  unfolding survivors new_number
  old_new v h t = chosen_place (survives c kept) (length c) v h t

  -- a survivor's new number is one of the trimmed circuit's
  pub new_below : (v : ℕ) → v < length c → T (survives c kept v) → new_number c kept v < length (survivors c kept)
  unfolding survivors new_number
  new_below v h t = rw (chosen_length (survives c kept) (length c)) (place_strict (survives c kept) v (length c) h t)

  module _ (j : ℕ) (h : j < length (survivors c kept)) where
    -- the new number of an old number
    pub new_old : new_number c kept (old_number j) ≡ j
    unfolding survivors new_number
    new_old = place_chosen (survives c kept) (length c) j h

    -- an old number is a survivor of the circuit
    pub old_survives : (old_number j < length c) × T (survives c kept (old_number j))
    unfolding survivors
    old_survives = chosen_passes (survives c kept) (length c) j h

  -- the survivors are in order
  pub survivors_ascend : (i j : ℕ) → i < j → j < length (survivors c kept) → old_number i < old_number j
  unfolding survivors
  survivors_ascend i j l h = chosen_ascends (survives c kept) (length c) i j l h

  -- no two new records have one old number
  pub old_injective : (i j : ℕ) → i < length (survivors c kept) → j < length (survivors c kept)
      → old_number i ≡ old_number j → i ≡ j
  old_injective i j h k e = sym (new_old i h) ∙ ap (new_number c kept) e ∙ new_old j k

  -- ---- the trimmed circuit

  -- it has a record a survivor
  pub trimmed_length : length (trimmed c kept) ≡ length (survivors c kept)
  unfolding trimmed
  trimmed_length = length-map (survivors c kept) (λ v. renumber (new_number c kept) (record_of c v))

  module _ (j : ℕ) (h : j < length (survivors c kept)) where
    -- its records are the survivors', renumbered
    pub trimmed_record : record_of (trimmed c kept) j ≡ renumber (new_number c kept) (record_of c (old_number j))
    unfolding trimmed
    trimmed_record = get_or_map (λ v. renumber (new_number c kept) (record_of c v)) (survivors c kept) j 0 _ h

    module _ (inside : Inside c) where
      -- what a record uses is the old number of its new number
      pub use_old_new : (u : ℕ) → T (member u (uses (record_of c (old_number j)))) → old_number (new_number c kept u) ≡ u
      use_old_new u m =
          let (below, t) = old_survives j h in
          old_new u (inside (old_number j) u below m) (uses_survive inside (old_number j) u below t m)

      -- a use of the trimmed circuit is a use of the circuit, of a survivor
      pub trimmed_uses : (u : ℕ) → Uses (graph (trimmed c kept)) j u
          → (u < length (survivors c kept)) × Uses (graph c) (old_number j) (old_number u)
      trimmed_uses u used =
          let (below, t) = old_survives j h in
          let (v, m, e) =
          member_map (new_number c kept) (uses (record_of c (old_number j))) u
          (rw (trimmed_record, renumber_uses (new_number c kept) (record_of c (old_number j))) at used) in
          rw (← e) (
            new_below v (inside (old_number j) v below m) (uses_survive inside (old_number j) v below t m),
            rw (use_old_new v m) m,
          )

  -- it uses its variables alone where the circuit does
  pub trimmed_inside : Inside c → Inside (trimmed c kept)
  trimmed_inside inside v u h used =
      rw trimmed_length (trimmed_uses v (rw trimmed_length at h) inside u used).0

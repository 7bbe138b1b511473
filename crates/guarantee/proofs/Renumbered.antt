-- A list of stimuli whose pokes are renumbered in its bytes: its stimuli are renumbered, and it passes on the circuit
-- that is trimmed by its certificate where the list passes on the circuit.
-- Assumes nothing.
use mathlib.Core.Path.{◌≡◌, sym, ◌∙◌, subst}
use mathlib.Core.Logic.{◌⊎◌, inl, inr}
use mathlib.Core.List.{List, [], ◌∷◌}
use Prim.Native.Nat.{ℕ, ◌+◌, ◌*◌, ◌/◌, ◌<◌}
use lib.ListN.{length, get_or}
use Rattle.net.specs.declared.Stimulus.{Stimulus}
use Rattle.net.specs.Net.{Graph, list_below}
use Rattle.net.specs.Machine.{Renumbered, none, ticks, pokes}
use Rattle.circuit.specs.Refusal.{passed}
use Rattle.circuit.specs.Number.{u16_at}
use Rattle.circuit.specs.Circuit.{Circuit, graph, NoLoop}
use Rattle.circuit.specs.Stimuli.{stimulus_at, bad_stimulus, check_stimuli, stimuli}
use Rattle.circuit.proofs.Tables.{Inside}
use Rattle.circuit.proofs.Stimuli.{PassedAt, stimulus_passed, stimuli_lengths, stimuli_pass}
use Rattle.fact.specs.Certificate.{certificate}
use Rattle.trim.specs.Trimmed.{replaced, trimmed}
use Rattle.trim.proofs.Survivors.{old_number}
use Rattle.trim.proofs.Machines.{accepted_follows}
use Rattle.guarantee.specs.Trimmed.{SameButVariable, TickStays, PokeRenumbered, RenumberedStimuli}
use Rattle.guarantee.proofs.Alike.{lists_below}

-- ---- one stimulus

module _ (numbers : List ℕ) (k : ℕ) (s s' : List ℕ) (at : ℕ) (same : SameButVariable s s' at) where
  -- ground 14 does not depend on a poke's variable
  bad_same : TickStays s s' at ⊎ PokeRenumbered numbers k s s' at → bad_stimulus s' at ≡ bad_stimulus s at
  bad_same (inl (tick, stays)) = rw (same.kind, same.byte1, same.value, stays)
  bad_same (inr p) =
      let poke : get_or s' at 0 ≡ 0 = same.kind ∙ p.poke in rw (poke, p.poke, same.byte1)

  -- both stimuli, in front of two renumbered lists
  module _ (g : Graph) (old : ℕ → ℕ) (size : k ≡ g.size) (olds : (j : ℕ) → j < k → get_or numbers j 0 ≡ old j) where
    renumbered_at_lem : TickStays s s' at ⊎ PokeRenumbered numbers k s s' at → (xs ys : List Stimulus)
        → Renumbered g old xs ys → Renumbered g old (stimulus_at s at ∷ xs) (stimulus_at s' at ∷ ys)
    renumbered_at_lem (inl (tick, stays)) xs ys h =
        let tick' : get_or s' at 0 ≡ 1 = same.kind ∙ tick in rw (tick, tick') (ticks h)
    renumbered_at_lem (inr p) xs ys h =
        let poke : get_or s' at 0 ≡ 0 = same.kind ∙ p.poke in
        let is : old (u16_at s' (at + 2)) ≡ u16_at s (at + 2) = sym (olds _ p.below) ∙ p.old in
        let below : u16_at s' (at + 2) < g.size = rw (← size) p.below in
        rw (p.poke, poke, same.value) (pokes below is h)

-- ---- the list

module _ (c : Circuit) (kept : List ℕ) (inside : Inside c) (no_loop : NoLoop c) (numbers : List ℕ) (k : ℕ) where
  abbrev c₁ : Circuit
  c₁ = replaced c (certificate c)

  abbrev c' : Circuit
  c' = trimmed c₁ kept

  module _ (size : k ≡ length c')
      (olds : (j : ℕ) → j < k → get_or numbers j 0 ≡ old_number c₁ kept j)
      (s s' : List ℕ) (h : RenumberedStimuli numbers k s s') where
    here : (i : ℕ) → i < length s / 8 → (xs ys : List Stimulus) → Renumbered (graph c') (old_number c₁ kept) xs ys
        → Renumbered (graph c') (old_number c₁ kept) (stimulus_at s (i * 8) ∷ xs) (stimulus_at s' (i * 8) ∷ ys)
    here i below =
        renumbered_at_lem numbers k s s' (i * 8) (h.same i below) (graph c') (old_number c₁ kept) size olds
        (h.variables i below)

    -- its stimuli are the list's, renumbered
    pub stimuli_renumbered : Renumbered (graph c') (old_number c₁ kept) (stimuli s) (stimuli s')
    unfolding stimuli
    stimuli_renumbered =
        subst (λ (m : ℕ). Renumbered (graph c') (old_number c₁ kept) (stimuli s)
        (list_below (λ i. stimulus_at s' (i * 8)) (m / 8))) (sym h.equally_long)
        (lists_below (Renumbered (graph c') (old_number c₁ kept)) (λ i. stimulus_at s (i * 8))
        (λ i. stimulus_at s' (i * 8)) (length s / 8) none here)

    passed_here : check_stimuli c s ≡ passed → (i : ℕ) → i < length s / 8 → PassedAt c' s' (i * 8)
    passed_here e i below =
        let (good, ok) = stimulus_passed c s e i below in (
          bad_same numbers k s s' (i * 8) (h.same i below) (h.variables i below) ∙ good,
          (accepted_follows c kept inside no_loop (here i below [] [] none) (ok, tt)).0,
        )

    -- it passes where the list does
    pub renumbered_passes : check_stimuli c s ≡ passed → check_stimuli c' s' ≡ passed
    renumbered_passes e =
        let (whole, few) = stimuli_lengths c s e in
        stimuli_pass c' s' (rw h.equally_long whole) (rw h.equally_long few)
        (λ i below. passed_here e i (rw h.equally_long at below))

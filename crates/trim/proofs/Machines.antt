-- The machine of the circuit that is trimmed by its certificate: over a list of stimuli whose pokes are renumbered,
-- every variable holds what its old number holds, and the list is accepted where the circuit's is.
-- Assumes nothing.
use mathlib.Core.Path.{◌≡◌, refl, sym, ap, ◌∙◌, subst}
use mathlib.Core.Logic.{inl}
use mathlib.Core.Bool.{false}
use mathlib.Core.List.{List, [], ◌∷◌}
use mathlib.Core.Option.{some}
use Prim.Native.Nat.{ℕ, zero, suc, ◌^◌, ◌<◌}
use borrow.Author.Tests.{lt-ltb, lt-leb}
use lib.ListN.{length, take}
use Rattle.net.specs.declared.Stimulus.{Stimulus}
use Rattle.net.specs.declared.Stimulus.TheVariants.{Poke, Tick}
use Rattle.net.specs.Net.{wire}
use Rattle.net.specs.Machine.{run, Renumbered, none, ticks, pokes}
use Rattle.net.proofs.Settle.{input_wire, wire_register}
use Rattle.net.proofs.Mapped.{Follows, settle_follows, run_follows}
use Rattle.circuit.specs.Refusal.{passed}
use Rattle.std.specs.Prelude.{Ok}
use Rattle.circuit.specs.Record.{role}
use Rattle.circuit.specs.Circuit.{Circuit, record_of, graph, NoLoop}
use Rattle.circuit.specs.Machine.{value, values, initial, power_on, machine}
use Rattle.circuit.specs.Stimuli.{fixed_to_other, check_stimulus, Accepted}
use Rattle.circuit.proofs.Tables.{Inside, circuit_ranked}
use Rattle.circuit.proofs.Values.{values_local, values_agree}
use Rattle.circuit.proofs.Stimuli.{Poked, poke_passed, input_record}
use Rattle.fact.specs.declared.Fact.TheVariants.{Always}
use Rattle.fact.specs.Certificate.{certificate}
use Rattle.fact.specs.TwoRuns.{AlikeLists, Claims}
use Rattle.fact.proofs.Claims.{claims_always}
use Rattle.fact.proofs.Certificate.{two_runs_claimed}
use Rattle.trim.specs.Trimmed.{replaced, new_number, trimmed}
use Rattle.trim.proofs.Renumbered.{renumber_initial, renumbered_value}
use Rattle.trim.proofs.Survivors.{old_number, old_injective, trimmed_length}
use Rattle.trim.proofs.Loops.{trimmed_all_inside, trimmed_ranked}
use Rattle.trim.proofs.TrimmedRecords.{input_stays, other_own}
use Rattle.trim.proofs.Following.{Gives, HoldsAlways, trimmed_follows}

-- a record gives a number by its value
value_gives : Gives value (λ n. n)
unfolding value
value_gives = record { constant = λ w n s own. refl; along = renumbered_value }

-- ---- lists of stimuli

module _ (c : Circuit) where
  alike_itself : (xs : List Stimulus) → AlikeLists c xs xs
  alike_itself [] = none
  alike_itself (Tick ∷ xs) = ticks (alike_itself xs)
  alike_itself (Poke i x ∷ xs) = pokes (inl refl) (alike_itself xs)

  -- the first stimuli of an accepted list are accepted
  take_accepted : (k : ℕ) (xs : List Stimulus) → Accepted c xs → Accepted c (take k xs)
  take_accepted zero xs a = tt
  take_accepted (suc k) [] a = tt
  take_accepted (suc k) (x ∷ xs) a = (a.0, take_accepted k xs a.1)

module _ (c : Circuit) (kept : List ℕ) (inside : Inside c) (no_loop : NoLoop c) where
  abbrev c₁ : Circuit
  c₁ = replaced c (certificate c)

  abbrev c' : Circuit
  c' = trimmed c₁ kept

  abbrev old : ℕ → ℕ
  old = old_number c₁ kept

  -- the values follow, in states in which what the certificate calls always holds its number
  pub values_follow : Follows (graph c) (values c) (graph c') (values c') old
      (HoldsAlways value (λ n. n) c (certificate c))
  unfolding values
  values_follow =
      trimmed_follows value (λ n. n) value_gives c (certificate c) kept inside
      (values_agree c' (trimmed_all_inside c (certificate c) kept inside))

  -- what is called always holds its number after every accepted list
  pub machine_always : (xs : List Stimulus) → Accepted c xs → (v n : ℕ) → v < length c → certificate c v ≡ Always n
      → machine c xs v ≡ n
  machine_always xs a v n below e =
      (claims_always (subst (λ f. Claims f (machine c xs v) (machine c xs v)) e
      (two_runs_claimed c inside no_loop xs xs a a (alike_itself c xs) v below))).0

  initial_same : (j : ℕ) → j < length c' → (role (record_of c' j) ≡ wire → ⊥)
      → initial (record_of c' j) ≡ initial (record_of c (old j))
  initial_same j h other =
      ap initial (other_own c (certificate c) kept j h other).is
      ∙ renumber_initial (new_number c₁ kept) (record_of c (old j))

  -- at power-on
  pub power_on_follows : (j : ℕ) → j < length c' → power_on c' j ≡ power_on c (old j)
  unfolding power_on machine run
  power_on_follows =
      settle_follows (circuit_ranked c inside no_loop) (values_local c)
      (trimmed_ranked c (certificate c) kept inside no_loop) (values_local c') values_follow
      (λ v. initial (record_of c v)) (λ v. initial (record_of c' v)) (machine_always [] tt)
      (λ v h e. initial_same v h (λ d. input_wire (sym e ∙ d)))
      (λ v h e. initial_same v h (λ d. wire_register (sym d ∙ e)))

  -- a poke that passes, passes by its new number
  poke_follows : (j x : ℕ) → j < length c' → Poked c (old j) x → check_stimulus c' (Ok (Poke j x)) 0 ≡ passed
  poke_follows j x h p =
      let (w, k, e) = input_record (record_of c (old j)) p.is_input_lem in
      let e' = input_stays c (certificate c) kept j h w k e in
      let fits : x < 2 ^ w = rw e at p.fits in
      let allowed : fixed_to_other (some k) x ≡ false = rw e at p.allowed in
      rw (lt-ltb j (length c') h, e', lt-leb (2 ^ w) x fits, allowed)

  -- a list whose pokes are renumbered is accepted where the list is
  pub accepted_follows : {xs ys : List Stimulus} → Renumbered (graph c') old xs ys → Accepted c xs → Accepted c' ys
  accepted_follows none a = tt
  accepted_follows (ticks l) a = (refl, accepted_follows l a.1)
  accepted_follows (pokes {i} {j} {x} h e l) a = (
    poke_follows j x h (rw e (poke_passed c i x 0 a.0)),
    accepted_follows l a.1,
  )

  -- and then every variable holds what its old number holds
  pub machine_follows : {xs ys : List Stimulus} → Renumbered (graph c') old xs ys → Accepted c xs
      → (j : ℕ) → j < length c' → machine c' ys j ≡ machine c xs (old j)
  unfolding machine
  machine_follows {xs} l a =
      run_follows (circuit_ranked c inside no_loop) (values_local c)
      (trimmed_ranked c (certificate c) kept inside no_loop) (values_local c') values_follow
      (λ u v h k e. old_injective c₁ kept u v (rw (trimmed_length c₁ kept) at h) (rw (trimmed_length c₁ kept) at k) e)
      l (power_on c) (power_on c') (λ k. machine_always (take k xs) (take_accepted c k xs a)) power_on_follows

-- The certificate of the circuit that is trimmed by its certificate: every variable has the fact of its old number.
-- Every round of the trimmed circuit is the circuit's along old numbers, and so its least closed store is.
-- Assumes nothing.
use mathlib.Core.Path.{◌≡◌, refl, sym, ap, ◌∙◌, subst}
use mathlib.Core.List.{List}
use Prim.Native.Nat.{ℕ, ◌<◌}
use lib.ListN.{length}
use Rattle.net.specs.Net.{wire, after, stopped}
use Rattle.net.proofs.Settle.{input_wire, wire_register}
use Rattle.net.proofs.Mapped.{Follows, settle_follows, after_follows}
use Rattle.circuit.specs.declared.record.Record.{Record}
use Rattle.circuit.specs.Record.{role}
use Rattle.circuit.specs.Circuit.{Circuit, record_of, graph, NoLoop}
use Rattle.circuit.proofs.Tables.{Inside, circuit_ranked}
use Rattle.fact.specs.declared.Fact.{Fact}
use Rattle.fact.specs.declared.Fact.TheVariants.{Always}
use Rattle.fact.specs.Fact.{◌⊑◌, itself}
use Rattle.fact.specs.Rule.{rule_of, rule}
use Rattle.fact.specs.Certificate.{LeastStore, initial_fact, initial_store, rounds, certificate}
use Rattle.fact.proofs.Order.{⊑_of_eq}
use Rattle.fact.proofs.Certificate.{rules_local, rules_agree, least_unique}
use Rattle.fact.proofs.Certificate.{certificate_fixpoint, rounds_below_closed, certificate_least}
use Rattle.trim.specs.Trimmed.{replaced, new_number, trimmed}
use Rattle.trim.proofs.Renumbered.{renumber_fact, renumbered_rule}
use Rattle.trim.proofs.Survivors.{old_number}
use Rattle.trim.proofs.Loops.{trimmed_all_inside, trimmed_no_loop, trimmed_ranked}
use Rattle.trim.proofs.TrimmedRecords.{old_below, other_own}
use Rattle.trim.proofs.Following.{Gives, HoldsAlways, held_given, trimmed_follows}

-- a record gives a fact by its rule
abbrev ruled : Record → (ℕ → Fact) → Fact → Fact
ruled r s own = rule_of r s

rule_gives : Gives ruled Always
unfolding rule_of
rule_gives =
    record { constant = λ w n s own. refl; along = λ new old r s own back. renumbered_rule new old r s back }

-- nothing but always n lies below always n
below_always : {x : Fact} {n : ℕ} → x ⊑ Always n → x ≡ Always n
below_always itself = refl

module _ (c : Circuit) (kept : List ℕ) (inside : Inside c) (no_loop : NoLoop c) where
  abbrev c₁ : Circuit
  c₁ = replaced c (certificate c)

  abbrev c' : Circuit
  c' = trimmed c₁ kept

  abbrev old : ℕ → ℕ
  old = old_number c₁ kept

  inside' : Inside c'
  inside' = trimmed_all_inside c (certificate c) kept inside

  no_loop' : NoLoop c'
  no_loop' = trimmed_no_loop c (certificate c) kept inside no_loop

  -- a store in which what the certificate calls always is always
  abbrev Known : (ℕ → Fact) → Type 0
  Known = HoldsAlways ruled Always c (certificate c)

  -- the rules follow
  pub rules_follow : Follows (graph c) (rule c) (graph c') (rule c') old Known
  unfolding rule
  rules_follow =
      trimmed_follows ruled Always rule_gives c (certificate c) kept inside (rules_agree c' inside')

  -- what the certificate calls always is always in every round
  round_known : (k : ℕ) → Known (after (graph c) (rule c) k (initial_store c))
  round_known k v n below e =
      below_always (subst (λ f. after (graph c) (rule c) k (initial_store c) v ⊑ f) e
      (rounds_below_closed c inside no_loop (certificate c) (certificate_least c inside no_loop).0 k v below))

  initial_same : (j : ℕ) → j < length c' → (role (record_of c' j) ≡ wire → ⊥)
      → initial_fact (record_of c' j) ≡ initial_fact (record_of c (old j))
  initial_same j h other =
      ap initial_fact (other_own c (certificate c) kept j h other).is
      ∙ renumber_fact (new_number c₁ kept) (record_of c (old j))

  -- before any round
  initial_follows : (j : ℕ) → j < length c' → initial_store c' j ≡ initial_store c (old j)
  unfolding initial_store after
  initial_follows =
      settle_follows (circuit_ranked c inside no_loop) (rules_local c)
      (trimmed_ranked c (certificate c) kept inside no_loop) (rules_local c')
      rules_follow (λ v. initial_fact (record_of c v)) (λ v. initial_fact (record_of c' v)) (round_known 0)
      (λ v h e. initial_same v h (λ d. input_wire (sym e ∙ d)))
      (λ v h e. initial_same v h (λ d. wire_register (sym d ∙ e)))

  -- after any number of rounds
  pub rounds_follow : (k j : ℕ) → j < length c'
      → after (graph c') (rule c') k (initial_store c') j ≡ after (graph c) (rule c) k (initial_store c) (old j)
  rounds_follow k =
      after_follows (circuit_ranked c inside no_loop) (rules_local c)
      (trimmed_ranked c (certificate c) kept inside no_loop) (rules_local c')
      rules_follow k (initial_store c) (initial_store c') (λ i h. round_known i) initial_follows

  least_follows : LeastStore c' (λ j. certificate c (old j))
  unfolding rule certificate stopped rounds
  least_follows = (
    λ j h. ⊑_of_eq (held_given ruled Always rule_gives c (certificate c) kept inside (certificate c) j h
        (λ v n below e. e)
        (λ _. certificate_fixpoint c inside no_loop (old j) (old_below c (certificate c) kept j h))),
    λ s closed j h.
        rw (← rounds_follow (rounds c) j h) (rounds_below_closed c' inside' no_loop' s closed (rounds c) j h),
  )

  -- where the rounds stop
  pub certificate_follows : (j : ℕ) → j < length c' → certificate c' j ≡ certificate c (old j)
  certificate_follows =
      least_unique c' (certificate c') (λ j. certificate c (old j)) (certificate_least c' inside' no_loop') least_follows

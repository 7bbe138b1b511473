-- The certificate of a circuit that meets none of grounds 5 to 11: it is the least closed store, the rounds are
-- counted as document 01 counts them, at most twice the registers, and it holds of two runs over lists of stimuli of
-- any length.
-- Assumes nothing.
use mathlib.Core.Path.{◌≡◌, refl, sym, ap, ◌∙◌, subst}
use mathlib.Core.Logic.{◌⊎◌, inl, inr}
use mathlib.Core.Bool.{false}
use mathlib.Core.List.{List}
use mathlib.Core.Option.{some}
use Prim.Native.Nat.{ℕ, suc, ◌*◌, ◌<◌, ◌≤◌}
use native.Mathlib.Omega.{arith}
use borrow.Author.Tests.{eqb-true, not-false}
use lib.Dec.{T, eqb}
use lib.ListN.{length}
use Rattle.net.specs.declared.Stimulus.{Stimulus}
use Rattle.net.specs.Tests.{member}
use Rattle.net.specs.Net.{input, wire, register, sum_registers, after, stopped, Fixpoint, Closed, Counts}
use Rattle.net.specs.Machine as machine
use Rattle.net.proofs.Bools.{cond_case, member_1, member_2, member_3}
use Rattle.net.proofs.Sums.{sum_registers_scale}
use Rattle.net.proofs.Settle.{input_wire, input_register, wire_register, Ranked, Local}
use Rattle.net.proofs.Rounds.{Monotone, Heights, count_few, count_counts, stopped_fixpoint, fixpoint_closed, rounds_below}
use Rattle.net.proofs.TwoRuns.{Sound, two_runs}
use Rattle.circuit.specs.declared.record.InputKind.{InputKind}
use Rattle.circuit.specs.declared.record.InputKind.TheVariants.{Fixed, Free, Secret}
use Rattle.circuit.specs.declared.record.Record.{Record}
use Rattle.circuit.specs.declared.record.Record.TheVariants.{Input, Constant, Operator, Multiplexer, Register, Enabled}
use Rattle.circuit.specs.Record.{role, uses, input_of}
use Rattle.circuit.specs.Circuit.{Circuit, record_of, graph, NoLoop}
use Rattle.circuit.specs.Machine.{value, values, initial, power_on, machine}
use Rattle.circuit.specs.Stimuli.{Accepted, fixed_to_other}
use Rattle.circuit.proofs.Tables.{Inside, circuit_ranked}
use Rattle.circuit.proofs.Values.{values_local}
use Rattle.circuit.proofs.Stimuli.{Poked, poke_passed, input_record}
use Rattle.fact.specs.declared.Fact.{Fact}
use Rattle.fact.specs.declared.Fact.TheVariants.{Open}
use Rattle.fact.specs.Fact.{◌⊑◌, itself, same}
use Rattle.fact.specs.Rule.{input_rule, rule_of, rule}
use Rattle.fact.specs.Certificate.{LeastStore, initial_fact, initial_store, registers, rounds, certificate}
use Rattle.fact.specs.TwoRuns.{is_secret, AlikeLists, Claims, number, alike, nothing}
use Rattle.fact.proofs.Order.{⊑_of_eq, ⊑_trans, ⊑_antisym, same_eq, same_refl, height, height_rises, height_most, operator_mono, multiplexer_mono, register_mono, register_above, enabled_above, enabled_mono}
use Rattle.fact.proofs.Claims.{claims_up, claims_operator, claims_multiplexer, claims_register, claims_enabled}

-- ---- one record's rule

rule_local : (r : Record) (s t : ℕ → Fact) → ((u : ℕ) → T (member u (uses r)) → s u ≡ t u) → rule_of r s ≡ rule_of r t
unfolding rule_of
rule_local (Input w k) s t h = refl
rule_local (Constant w n) s t h = refl
rule_local (Operator w op a b) s t h = rw (h a (member_1 _ _), h b (member_2 _ _ _))
rule_local (Multiplexer w a b c) s t h = rw (h a (member_1 _ _), h b (member_2 _ _ _), h c (member_3 _ _ _ _))
rule_local (Register w a n) s t h = rw (h a (member_1 _ _))
rule_local (Enabled w a b n) s t h = rw (h a (member_1 _ _), h b (member_2 _ _ _))

-- a record's rule is monotone in the facts of what it uses
pub rule_mono : (r : Record) (s t : ℕ → Fact) → ((u : ℕ) → T (member u (uses r)) → s u ⊑ t u) → rule_of r s ⊑ rule_of r t
unfolding rule_of
rule_mono (Input w k) s t h = itself
rule_mono (Constant w n) s t h = itself
rule_mono (Operator w op a b) s t h = operator_mono op w (h a (member_1 _ _)) (h b (member_2 _ _ _))
rule_mono (Multiplexer w a b c) s t h =
    multiplexer_mono w (h a (member_1 _ _)) (h b (member_2 _ _ _)) (h c (member_3 _ _ _ _))
rule_mono (Register w a n) s t h = register_mono w n (h a (member_1 _ _))
rule_mono (Enabled w a b n) s t h = enabled_mono w n (h a (member_1 _ _)) (h b (member_2 _ _ _))

rule_input : (r : Record) (s : ℕ → Fact) → role r ≡ input → rule_of r s ≡ initial_fact r
unfolding rule_of
rule_input (Input w k) s e = refl
rule_input (Constant w n) s e = cc
rule_input (Operator w op a b) s e = cc
rule_input (Multiplexer w a b c) s e = cc
rule_input (Register w a n) s e = cc
rule_input (Enabled w a b n) s e = cc

rule_power_on : (r : Record) (s : ℕ → Fact) → role r ≡ register → initial_fact r ⊑ rule_of r s
unfolding rule_of
rule_power_on (Input w k) s e = ⊑_of_eq (cc)
rule_power_on (Constant w n) s e = ⊑_of_eq (cc)
rule_power_on (Operator w op a b) s e = ⊑_of_eq (cc)
rule_power_on (Multiplexer w a b c) s e = ⊑_of_eq (cc)
rule_power_on (Register w a n) s e = register_above w n (s a)
rule_power_on (Enabled w a b n) s e = enabled_above w n (s a) (s b)

-- a wire's or a register's rule claims what its record makes of values of which its operands' facts are claimed, and
-- for a register its own fact, as it may hold
rule_claims : (r : Record) (s : ℕ → Fact) (m m' : ℕ → ℕ) (own own' : ℕ) → (role r ≡ input → ⊥)
    → ((u : ℕ) → T (member u (uses r)) → Claims (s u) (m u) (m' u))
    → (role r ≡ register → Claims (rule_of r s) own own')
    → Claims (rule_of r s) (value r m own) (value r m' own')
unfolding rule_of value
rule_claims (Input w k) s m m' own own' q h held = absurd (q refl)
rule_claims (Constant w n) s m m' own own' q h held = number
rule_claims (Operator w op a b) s m m' own own' q h held =
    claims_operator op w (h a (member_1 _ _)) (h b (member_2 _ _ _))
rule_claims (Multiplexer w a b c) s m m' own own' q h held =
    claims_multiplexer w (h a (member_1 _ _)) (h b (member_2 _ _ _)) (h c (member_3 _ _ _ _))
rule_claims (Register w a n) s m m' own own' q h held = claims_register w n (h a (member_1 _ _))
rule_claims (Enabled w a b n) s m m' own own' q h held =
    claims_enabled w n (h a (member_1 _ _)) (h b (member_2 _ _ _)) (held refl)

-- at power-on
initial_claims : (r : Record) → (role r ≡ wire → ⊥) → Claims (initial_fact r) (initial r) (initial r)
initial_claims (Input w (Fixed n)) q = cond_case (λ f. Claims f 0 0) (eqb n 0) (λ e. number) (λ e. alike)
initial_claims (Input w Free) q = alike
initial_claims (Input w Secret) q = nothing
initial_claims (Constant w n) q = absurd (q refl)
initial_claims (Operator w op a b) q = absurd (q refl)
initial_claims (Multiplexer w a b c) q = absurd (q refl)
initial_claims (Register w a n) q = number
initial_claims (Enabled w a b n) q = number

-- two values that may be poked into an input at the same place of two lists
poke_claims : (k : InputKind) (x y : ℕ) → fixed_to_other (some k) x ≡ false → (x ≡ y) ⊎ T (is_secret (some k))
    → Claims (input_rule k) x y
poke_claims (Fixed n) x y allowed (inl e) =
    let is : x ≡ n = eqb-true x n (not-false _ allowed) in
    rw (← e, is) (cond_case (λ f. Claims f n n) (eqb n 0) (λ z. rw (eqb-true n 0 z) number) (λ z. alike))
poke_claims (Fixed n) x y allowed (inr t) = absurd t
poke_claims Free x y allowed (inl e) = subst (λ z. Claims Open x z) e alike
poke_claims Free x y allowed (inr t) = absurd t
poke_claims Secret x y allowed d = nothing

-- ---- the circuit meets the premises

module _ (c : Circuit) where
  -- a wire's fact depends on what its record uses, and on nothing else
  pub rules_local : Local (graph c) (rule c)
  unfolding rule
  rules_local s t v below e h = rule_local (record_of c v) s t h

  -- stores that agree on the circuit's variables give every variable the same fact
  pub rules_agree : Inside c → (s t : ℕ → Fact) → ((u : ℕ) → u < length c → s u ≡ t u)
      → (v : ℕ) → v < length c → rule c s v ≡ rule c t v
  unfolding rule
  rules_agree inside s t h v below = rule_local (record_of c v) s t (λ u m. h u (inside v u below m))

  -- a store that agrees with a least closed one on the circuit's variables is one
  pub least_agree : Inside c → (s t : ℕ → Fact) → ((v : ℕ) → v < length c → t v ≡ s v) → LeastStore c s
      → LeastStore c t
  least_agree inside s t h (closed, least) = (
    λ v below. rw (h v below, rules_agree inside t s h v below) (closed v below),
    λ u other v below. rw (h v below) (least u other v below),
  )

  -- two least closed stores agree on the circuit's variables
  pub least_unique : (s t : ℕ → Fact) → LeastStore c s → LeastStore c t → (v : ℕ) → v < length c → s v ≡ t v
  least_unique s t (closed, least) (closed', least') v below =
      ⊑_antisym (least t closed' v below) (least' s closed v below)

  monotone : Monotone (graph c) ◌⊑◌ (rule c) (λ v. initial_fact (record_of c v))
  unfolding rule
  monotone =
      record {
        reflexive = λ x. itself;
        transitive = λ x y z h k. ⊑_trans h k;
        local = rules_local;
        wires = λ s t v below e h. rule_mono (record_of c v) s t h;
        registers = λ s t v below e h own. rule_mono (record_of c v) s t h;
        inputs = λ s v below e. rule_input (record_of c v) s e;
        power_on_lem = λ s v below e. rule_power_on (record_of c v) s e;
      }

  heights : Heights (graph c) ◌⊑◌ (rule c) same (λ v. 2)
  heights =
      record {
        same_eq = same_eq;
        same_refl = same_refl;
        height = height;
        rises = λ x y h e. height_rises h e;
        capped = λ s v below e. height_most (rule c s v);
      }

  sound : Sound (graph c) (rule c) (values c) Claims
  unfolding rule values
  sound =
      record {
        local = values_local c;
        wires = λ s m m' v below e h.
            rule_claims (record_of c v) s m m' (m v) (m' v) (λ d. input_wire (sym d ∙ e)) h
            (λ d. wire_register (sym e ∙ d));
        registers = λ s m m' v below e h fixed own.
            rw fixed (rule_claims (record_of c v) s m m' (m v) (m' v) (λ d. input_register (sym d ∙ e)) h
            (λ _. subst (λ f. Claims f (m v) (m' v)) fixed own));
      }

  -- twice the registers, as the sum of their heights
  twice_registers : sum_registers (graph c) (λ v. 2) ≡ 2 * registers c
  unfolding registers
  twice_registers = sum_registers_scale (graph c) 2 (λ v. 1)

-- ---- what follows for a circuit whose records use its variables alone, and that has no loop

module _ (c : Circuit) (inside : Inside c) (no_loop : NoLoop c) where
  ranked : Ranked (graph c)
  ranked = circuit_ranked c inside no_loop

  enough : sum_registers (graph c) (λ v. 2) ≤ suc (2 * registers c)
  enough = omega (arith, twice_registers c)

  -- every variable of the certificate is what its rule gives
  pub certificate_fixpoint : Fixpoint (graph c) (rule c) (certificate c)
  unfolding certificate initial_store
  certificate_fixpoint = stopped_fixpoint ranked (monotone c) (heights c) (suc (2 * registers c)) enough

  -- after any number of rounds every variable's fact is at or below that of every closed store
  pub rounds_below_closed : (s : ℕ → Fact) → Closed (graph c) (rule c) ◌⊑◌ s → (k v : ℕ) → v < length c
      → after (graph c) (rule c) k (initial_store c) v ⊑ s v
  unfolding initial_store
  rounds_below_closed s closed k v below = rounds_below ranked (monotone c) s closed k v below

  -- demand 2: the certificate is closed, and at or below every closed store at every variable
  pub certificate_least : LeastStore c (certificate c)
  unfolding certificate stopped rounds
  certificate_least = (
    fixpoint_closed ranked (monotone c) (heights c) (certificate c) certificate_fixpoint,
    λ s closed v below. rounds_below_closed s closed (rounds c) v below,
  )

  -- demand 2: the round after the count changes no register, every earlier one changes some, and they are at most
  -- twice the registers
  pub rounds_counted : Counts (graph c) (rule c) (initial_store c) (rounds c)
  unfolding rounds initial_store
  rounds_counted = count_counts ranked (monotone c) (heights c) (suc (2 * registers c)) enough

  pub rounds_few : rounds c ≤ 2 * registers c
  unfolding rounds initial_store
  rounds_few =
      subst (λ (k : ℕ). rounds c ≤ k) (twice_registers c)
      (count_few ranked (monotone c) (heights c) (suc (2 * registers c)))

  -- ---- demand 3

  input_fact : (v : ℕ) → v < length c → role (record_of c v) ≡ input → certificate c v ≡ initial_fact (record_of c v)
  input_fact v below e = certificate_fixpoint v below ∙ (monotone c).inputs (certificate c) v below e

  register_fact : (v : ℕ) → v < length c → role (record_of c v) ≡ register
      → initial_fact (record_of c v) ⊑ certificate c v
  register_fact v below e = rw (certificate_fixpoint v below) ((monotone c).power_on_lem (certificate c) v below e)

  -- the facts of the certificate claim what two accepted lists poke
  pokes_claimed : {xs ys : List Stimulus} → Accepted c xs → AlikeLists c xs ys
      → machine.Alike (λ i. Claims (certificate c i)) xs ys
  pokes_claimed a machine.none = machine.none
  pokes_claimed a (machine.ticks h) = machine.ticks (pokes_claimed a.1 h)
  pokes_claimed a (machine.pokes {i} {x} {y} d h) =
      machine.pokes (claimed (poke_passed c i x 0 a.0)) (pokes_claimed a.1 h)
    where
      claimed : Poked c i x → Claims (certificate c i) x y
      claimed p =
          let (w, k, e) = input_record (record_of c i) p.is_input_lem in
          let is_input_lem : role (record_of c i) ≡ input = ap role e in
          rw (input_fact i p.below is_input_lem, e)
          (poke_claims k x y (subst (λ r. fixed_to_other (input_of r) x ≡ false) e p.allowed)
          (subst (λ r. (x ≡ y) ⊎ T (is_secret (input_of r))) e d))

  -- Two runs from power-on, over two lists of any length that are accepted and differ only in what is poked into secret
  -- inputs: afterwards every variable's values are as its fact claims.
  pub two_runs_claimed : (xs ys : List Stimulus) → Accepted c xs → Accepted c ys → AlikeLists c xs ys
      → (v : ℕ) → v < length c → Claims (certificate c v) (machine c xs v) (machine c ys v)
  unfolding machine power_on
  two_runs_claimed xs ys a b h =
      two_runs ranked (sound c) (certificate c) certificate_fixpoint
      (λ v. initial (record_of c v)) (λ v. initial (record_of c v))
      (λ v below e. claims_up (⊑_of_eq (sym (input_fact v below e)))
      (initial_claims (record_of c v) (λ d. input_wire (sym e ∙ d))))
      (λ v below e. claims_up (register_fact v below e)
      (initial_claims (record_of c v) (λ d. wire_register (sym d ∙ e))))
      (pokes_claimed a h)

-- The trimmed circuit follows the circuit along old numbers, over any type of values: where a store holds what is
-- called always, what a record gives there is what the trimmed circuit's record gives.
-- Assumes nothing.
use mathlib.Core.Path.{◌≡◌, sym, ap, ◌∙◌}
use mathlib.Core.List.{List}
use Prim.Native.Nat.{ℕ, ◌<◌}
use lib.Dec.{T}
use lib.ListN.{length}
use Rattle.net.specs.Tests.{member}
use Rattle.net.specs.Net.{wire}
use Rattle.net.proofs.Settle.{input_wire, wire_register, Agree}
use Rattle.net.proofs.Mapped.{Follows}
use Rattle.circuit.specs.declared.record.Record.{Record}
use Rattle.circuit.specs.declared.record.Record.TheVariants.{Constant}
use Rattle.circuit.specs.Record.{role, uses, renumber}
use Rattle.circuit.specs.Circuit.{Circuit, record_of, graph}
use Rattle.circuit.proofs.Tables.{Inside}
use Rattle.fact.specs.declared.Fact.{Fact}
use Rattle.fact.specs.declared.Fact.TheVariants.{Always}
use Rattle.trim.specs.Trimmed.{replaced, trimmed}
use Rattle.trim.proofs.Renumbered.{renumber_role}
use Rattle.trim.proofs.Survivors.{old_number}
use Rattle.trim.proofs.TrimmedRecords.{Own, old_below, own_or_called, other_own, other_role}

-- What is asked of what a record gives from a store and its own value: a constant gives its number, and a renumbered
-- record gives from a store along a map that leads back what the record gives.
pub record Gives {A : Type 0} (give : Record → (ℕ → A) → A → A) (number : ℕ → A) : Type 0 where
  pub constant : (w n : ℕ) (s : ℕ → A) (own : A) → give (Constant w n) s own ≡ number n
  pub along : (new old : ℕ → ℕ) (r : Record) (s : ℕ → A) (own : A)
      → ((u : ℕ) → T (member u (uses r)) → old (new u) ≡ u)
      → give (renumber new r) (λ u. s (old u)) own ≡ give r s own

module _ {A : Type 0} (give : Record → (ℕ → A) → A → A) (number : ℕ → A) where
  -- what every variable gets from a store
  abbrev pub given : Circuit → (ℕ → A) → ℕ → A
  given c s v = give (record_of c v) s (s v)

  -- what is called always holds its number
  abbrev pub HoldsAlways : Circuit → (ℕ → Fact) → (ℕ → A) → Type 0
  HoldsAlways c facts s = (v n : ℕ) → v < length c → facts v ≡ Always n → s v ≡ number n

  module _ (G : Gives give number) (c : Circuit) (facts : ℕ → Fact) (kept : List ℕ) (inside : Inside c) where
    abbrev c' : Circuit
    c' = trimmed (replaced c facts) kept

    abbrev old : ℕ → ℕ
    old = old_number (replaced c facts) kept

    module _ (s : ℕ → A) (j : ℕ) (h : j < length c') where
      own_given : Own c facts kept j h → given c' (λ u. s (old u)) j ≡ given c s (old j)
      own_given o =
          ap (λ r. give r (λ u. s (old u)) (s (old j))) o.is
          ∙ G.along _ old (record_of c (old j)) s (s (old j)) (o.back inside)

      -- a variable that is no wire gets what it got
      other_given : (role (record_of c' j) ≡ wire → ⊥) → given c' (λ u. s (old u)) j ≡ given c s (old j)
      other_given other = own_given (other_own c facts kept j h other)

      -- a variable gets what its old number holds where that gets what it holds
      pub held_given : HoldsAlways c facts s
          → (role (record_of c (old j)) ≡ role (record_of c' j) → s (old j) ≡ given c s (old j))
          → given c' (λ u. s (old u)) j ≡ s (old j)
      held_given holds held =
          own_or_called c facts kept j h
          (λ o. own_given o ∙ sym (held (sym (ap role o.is ∙ renumber_role _ (record_of c (old j))))))
          (λ m d. ap (λ r. give r (λ u. s (old u)) (s (old j))) d.is ∙ G.constant _ m _ _
          ∙ sym (holds (old j) m (old_below c facts kept j h) d.always))

    -- the trimmed circuit follows the circuit
    pub trimmed_follows : ((s t : ℕ → A) → Agree (graph c') s t → Agree (graph c') (given c' s) (given c' t))
        → Follows (graph c) (given c) (graph c') (given c') old (HoldsAlways c facts)
    trimmed_follows agree =
        record {
          inputs = λ v h e. other_role c facts kept v h (λ d. input_wire (sym e ∙ d)) ∙ e;
          registers = λ v h e. other_role c facts kept v h (λ d. wire_register (sym d ∙ e)) ∙ e;
          wires = λ s settled holds v h e.
              held_given s v h holds (λ d. settled (old v) (old_below c facts kept v h) (d ∙ e));
          steps = λ s holds v h e. other_given s v h (λ d. wire_register (sym d ∙ e));
          agree = agree;
        }

-- The records of a circuit that is replaced by a store and then trimmed: each is the circuit's own record of its old
-- number, renumbered, or a constant of the number that the store calls always.
-- Assumes nothing.
use mathlib.Core.Path.{◌≡◌, sym, ap, ◌∙◌}
use mathlib.Core.List.{List}
use Prim.Native.Nat.{ℕ, ◌<◌}
use native.Mathlib.Omega.{arith}
use lib.Dec.{T}
use lib.ListN.{length}
use Rattle.net.specs.Tests.{member}
use Rattle.net.specs.Net.{wire}
use Rattle.circuit.specs.declared.record.InputKind.{InputKind}
use Rattle.circuit.specs.declared.record.Record.{Record}
use Rattle.circuit.specs.declared.record.Record.TheVariants.{Input, Constant}
use Rattle.circuit.specs.Record.{width, role, uses, renumber}
use Rattle.circuit.specs.Circuit.{Circuit, record_of}
use Rattle.circuit.proofs.Tables.{Inside}
use Rattle.fact.specs.declared.Fact.{Fact}
use Rattle.fact.specs.declared.Fact.TheVariants.{Always}
use Rattle.trim.specs.Trimmed.{replace, replaced, survivors, new_number, trimmed}
use Rattle.trim.proofs.Replaced.{replace_cases, replaced_length, replaced_record, replaced_inside}
use Rattle.trim.proofs.Renumbered.{renumber_role, renumber_width}
use Rattle.trim.proofs.Survivors.{old_number, old_survives, trimmed_length, trimmed_record, use_old_new}

module _ (c : Circuit) (s : ℕ → Fact) (kept : List ℕ) where
  abbrev c₁ : Circuit
  c₁ = replaced c s

  abbrev c' : Circuit
  c' = trimmed c₁ kept

  abbrev new : ℕ → ℕ
  new = new_number c₁ kept

  abbrev old : ℕ → ℕ
  old = old_number c₁ kept

  module _ (j : ℕ) (h : j < length c') where
    abbrev r : Record
    r = record_of c (old j)

    below : j < length (survivors c₁ kept)
    below = rw (trimmed_length c₁ kept) at h

    -- its old number is one of the circuit's
    pub old_below : old j < length c
    old_below = omega (arith, (old_survives c₁ kept j below).0, replaced_length c s)

    -- the record is the circuit's own, renumbered, by numbers that lead back
    pub record Own : Type 0 where
      pub is : record_of c' j ≡ renumber new r
      pub back : Inside c → (u : ℕ) → T (member u (uses r)) → old (new u) ≡ u

    -- it is a constant of what the store calls always
    pub record Called (m : ℕ) : Type 0 where
      pub always : s (old j) ≡ Always m
      pub is : record_of c' j ≡ Constant (width r) m

    is_replaced : record_of c₁ (old j) ≡ replace (s (old j)) r
    is_replaced = replaced_record c s (old j) old_below

    is_renumbered : record_of c' j ≡ renumber new (replace (s (old j)) r)
    is_renumbered = trimmed_record c₁ kept j below ∙ ap (renumber new) is_replaced

    -- there is no other
    pub own_or_called : {P : Type 0} → (Own → P) → ((m : ℕ) → Called m → P) → P
    own_or_called own called =
        replace_cases (s (old j)) r
        (λ e. own record {
          is = is_renumbered ∙ ap (renumber new) e;
          back = λ inside u m.
              use_old_new c₁ kept j below (replaced_inside c s inside) u (rw (is_replaced ∙ e) m);
        })
        (λ m d e. called m record { always = d; is = is_renumbered ∙ ap (renumber new) e })

    -- it has the width that it had
    pub trimmed_width : width (record_of c' j) ≡ width r
    trimmed_width =
        own_or_called (λ o. ap width o.is ∙ renumber_width new r) (λ m d. ap width d.is)

    -- an input stays as it is
    pub input_stays : (w : ℕ) (k : InputKind) → r ≡ Input w k → record_of c' j ≡ Input w k
    input_stays w k e = is_renumbered ∙ ap (λ (x : Record). renumber new (replace (s (old j)) x)) e

    -- a variable that is no wire has its own record
    pub other_own : (role (record_of c' j) ≡ wire → ⊥) → Own
    other_own other = own_or_called (λ o. o) (λ m d. absurd (other (ap role d.is)))

    -- and so the same role
    pub other_role : (role (record_of c' j) ≡ wire → ⊥) → role r ≡ role (record_of c' j)
    other_role other = sym (ap role (other_own other).is ∙ renumber_role new r)

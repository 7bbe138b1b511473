-- What record v of a table uses under the facts that stand in front of the scratch, by its fields.
-- Assumes nothing.
use mathlib.Core.Path.{◌≡◌}
use mathlib.Core.List.{List, [], ◌∷◌}
use Prim.Native.Nat.{ℕ, ◌+◌, ◌*◌, ◌≤◌, ◌<◌}
use native.Mathlib.Nat.{not-suc-le-zero}
use native.Mathlib.Omega.{arith}
use borrow.Author.Tests.{ne_eqb}
use lib.ListN.{length}
use Rattle.net.proofs.Bools.{member_1}
use Rattle.buffer.proofs.Store.{stands_read}
use Rattle.circuit.specs.declared.record.Fields.{Fields}
use Rattle.circuit.specs.declared.record.Record.{Record}
use Rattle.circuit.specs.Reading.{fields_at, decode}
use Rattle.circuit.specs.Circuit.{record_of}
use Rattle.circuit.specs.declared.table.Table.{Table}
use Rattle.circuit.specs.Tables.{circuit_of}
use Rattle.circuit.proofs.Decoding.{by_kind, decode_input, decode_constant, decode_operator}
use Rattle.circuit.proofs.Decoding.{decode_multiplexer, decode_register, decode_enabled}
use Rattle.circuit.proofs.Tables.{circuit_record, record_uses}
use Rattle.fact.specs.declared.Fact.{Fact}
use Rattle.fact.specs.declared.Fact.TheVariants.{Always, Open, Marked}
use Rattle.analysis.specs.Cells.{words_at}
use Rattle.path.specs.Row.{multiplexer_uses, uses_under}
use Rattle.path.specs.Uses.{Sorted}
use Rattle.path.specs.Search.{FactsStand, facts}
use Rattle.path.proofs.Sorted.{sorted_two, sorted_one}

-- ---- by the fields

-- what is neither a multiplexer nor a register without an enable uses A and B, if it uses anything
pair_uses : (s : ℕ → Fact) (f : Fields) → (f.kind ≡ 3 → ⊥) → (f.kind ≡ 4 → ⊥) → 0 < length (uses_under s (decode f))
    → uses_under s (decode f) ≡ f.a ∷ f.b ∷ []
pair_uses s f three four some =
    by_kind f.kind
    (λ e. absurd (not-suc-le-zero (rw (decode_input f e) at some)))
    (λ e. absurd (not-suc-le-zero (rw (decode_constant f e) at some)))
    (λ e. rw (decode_operator f e))
    (λ e. absurd (three e))
    (λ e. absurd (four e))
    (λ h. rw (decode_enabled f h))

-- ---- by a multiplexer's control

-- the list is what a multiplexer with the operands a, b and c uses, where its control's fact is x
pub record UsedBy (x : Fact) (a b c : ℕ) (l : List ℕ) : Type 0 where
  uses : l ≡ multiplexer_uses x a b c

module _ {x : Fact} {a b c : ℕ} {l r : List ℕ} (by : UsedBy x a b c l) where
  pub sorted_zero : {m : ℕ} → x ≡ Always m → m ≡ 0 → Sorted (a ∷ c ∷ c ∷ []) r → Sorted l r
  sorted_zero e z sorted = rw (by.uses, e, z) (sorted_two sorted)

  pub sorted_other : {m : ℕ} → x ≡ Always m → (m ≡ 0 → ⊥) → Sorted (a ∷ b ∷ b ∷ []) r → Sorted l r
  sorted_other {m} e z sorted = rw (by.uses, e, ne_eqb m 0 z) (sorted_two sorted)

  pub sorted_open : x ≡ Open → Sorted (a ∷ b ∷ c ∷ []) r → Sorted l r
  sorted_open e sorted = rw (by.uses, e) sorted

  pub sorted_marked : x ≡ Marked → Sorted (a ∷ b ∷ c ∷ []) r → Sorted l r
  sorted_marked e sorted = rw (by.uses, e) sorted

-- ---- of a table

module _ {t : Table} {s : List ℕ} (stand : FactsStand t s) (v : ℕ) (below : v < t.records) where
  abbrev f : Fields
  f = fields_at t.bytes.now (v * 16)

  abbrev here : Record
  here = record_of (circuit_of t) v

  is : here ≡ decode f
  is = circuit_record t.bytes.now t.records v below

  pub sorted_register : {a : ℕ} → f.kind ≡ 4 → a ≡ f.a
      → Sorted (uses_under (facts t) here) (a ∷ a ∷ a ∷ [])
  sorted_register e at = rw (is, decode_register f e, at) (sorted_one f.a)

  pub sorted_pair : {a b : ℕ} {r : List ℕ} → (f.kind ≡ 3 → ⊥) → (f.kind ≡ 4 → ⊥)
      → 0 < length (uses_under (facts t) here) → a ≡ f.a → b ≡ f.b → Sorted (a ∷ b ∷ b ∷ []) r
      → Sorted (uses_under (facts t) here) r
  sorted_pair three four some at bt sorted =
      rw (is, pair_uses (facts t) f three four (rw is at some), ← at, ← bt) (sorted_two sorted)

  module _ (kind : f.kind ≡ 3) where
    control_below : f.a < t.records
    control_below =
        record_uses t.bytes.now t.records t.checked.valid v below f.a (rw (decode_multiplexer f kind) (member_1 _ _))

    -- its control can be read
    pub control_lent : {a : ℕ} → a ≡ f.a → a * 3 + 3 ≤ length s
    control_lent at = omega (arith, control_below, stand.lent)

    pub multiplexer_uses_lem : {a b c : ℕ} {x : Fact} → a ≡ f.a → b ≡ f.b → c ≡ f.c → x ≡ words_at s a
        → UsedBy x a b c (uses_under (facts t) here)
    multiplexer_uses_lem at bt ct read =
        record {
          uses = rw (is, decode_multiplexer f kind, read, at, bt, ct, stands_read stand.stand f.a control_below);
        }

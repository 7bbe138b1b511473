-- The bytes of a fact: what is read of them is the fact, and they are written one after another.
-- Assumes nothing.
use mathlib.Core.Path.{◌≡◌, refl, sym, ap, ◌∙◌}
use mathlib.Core.List.{List, [], ◌∷◌}
use Prim.Native.Nat.{ℕ, zero, suc, ◌+◌, ◌*◌, ◌/◌, ◌%◌, ◌^◌, ◌<◌, ◌≤◌}
use native.Mathlib.Nat.{zero-add}
use native.Mathlib.Numerals.{add-one, add-two, add-three, add-four, add_five, add_six, add_seven}
use native.Mathlib.Omega.{arith}
use lib.ListN.{length, get_or, set, get_or-eq_default}
use Rattle.buffer.specs.Store.{Wrote}
use Rattle.buffer.proofs.Layouts.{LayoutLaws, wrote_sets}
use Rattle.circuit.proofs.Words.{u32_bytes_lem}
use Rattle.fact.specs.declared.Fact.{Fact}
use Rattle.fact.specs.declared.Fact.TheVariants.{Always, Open, Marked}
use Rattle.fact.specs.Fact.{fact_byte, fact_number, fact_bytes, fact_of, fact_at}
use Rattle.fact.specs.Cells.{facts}

-- ---- one fact

-- byte 0 of a fact
pub byte_range : (f : Fact) → (1 ≤ fact_byte f) × (fact_byte f ≤ 3)
byte_range (Always n) = (omega arith, omega arith)
byte_range Open = (omega arith, omega arith)
byte_range Marked = (omega arith, omega arith)

fact_of_lem : (f : Fact) → fact_of (fact_byte f) (fact_number f) ≡ f
fact_of_lem (Always n) = refl
fact_of_lem Open = refl
fact_of_lem Marked = refl

-- what a fact says of the number: always carries it
abbrev pub Carries : Fact → ℕ → Type 0
Carries (Always m) n = m ≡ n
Carries Open n = Unit {0}
Carries Marked n = Unit {0}

-- byte 0 and the number read as a fact exactly where the byte is its number, and always carries the number
pub fact_read : (byte n : ℕ) (f : Fact) → 1 ≤ byte → byte ≤ 3
    → (fact_of byte n ≡ f → (byte ≡ fact_byte f) × Carries f n) × ((byte ≡ fact_byte f) × Carries f n → fact_of byte n ≡ f)
fact_read byte n f low high = (λ e. rw e at (at_byte byte n low high), λ e. rw e.0 (of_byte f n e.1))
  where
    at_byte : (byte n : ℕ) → 1 ≤ byte → byte ≤ 3 → (byte ≡ fact_byte (fact_of byte n)) × Carries (fact_of byte n) n
    at_byte zero n low high = absurd (omega arith)
    at_byte (suc zero) n low high = (refl, refl)
    at_byte (suc (suc zero)) n low high = (refl, tt)
    at_byte (suc (suc (suc zero))) n low high = (refl, tt)
    at_byte (suc (suc (suc (suc byte)))) n low high = absurd (omega arith)

    of_byte : (f : Fact) (n : ℕ) → Carries f n → fact_of (fact_byte f) n ≡ f
    of_byte (Always m) n e = rw e
    of_byte Open n e = refl
    of_byte Marked n e = refl

-- ---- a fact among a certificate's bytes

pub facts_laws : LayoutLaws facts
facts_laws =
    record {
      size = λ x. refl;
      local = λ k l i j h.
          let same : (m a b : ℕ) → m < 8 → a ≡ i + m → b ≡ j + m → get_or k a 0 ≡ get_or l b 0 =
          λ m a b q e e'. rw (e, e') (h m q) in
          cc (
            same 0 i j (omega arith) (omega arith) (omega arith),
            same 4 (i + 4) (j + 4) (omega arith) (omega arith) (omega arith),
            same 5 (i + 4 + 1) (j + 4 + 1) (omega arith) (omega arith) (omega arith),
            same 6 (i + 4 + 2) (j + 4 + 2) (omega arith) (omega arith) (omega arith),
            same 7 (i + 4 + 3) (j + 4 + 3) (omega arith) (omega arith) (omega arith),
          );
    }

-- its eight bytes, written one after another; its number is x
pub fact_stored : (l : List ℕ) (at : ℕ) (f : Fact) {b x : ℕ} → b ≡ fact_byte f → x ≡ fact_number f → x < 2 ^ 32
    → at + 8 ≤ length l
    → Wrote facts l
    (set (set (set (set (set (set (set (set l at b) (at + 1) 0) (at + 2) 0) (at + 3) 0) (at + 4) (x % 256)) (at + 5)
    (x / 256 % 256)) (at + 6) (x / 65536 % 256)) (at + 7) (x / 16777216 % 256)) at f
fact_stored l at f byte number fit room =
    rw (add-one, add-two, add-three, add-four, add_five, add_six, add_seven, byte, number)
    (wrote_sets facts_laws l at f
    (ap (fact_of (fact_byte f)) (u32_bytes_lem (fact_number f) (rw number at fit)) ∙ fact_of_lem f) room)

-- eight bytes that are a fact's, whose number fits four of them, read as the fact
pub bytes_read : (cells : List ℕ) (v : ℕ) (f : Fact) → fact_number f < 2 ^ 32
    → ((m : ℕ) → m < 8 → get_or cells (v * 8 + m) 0 ≡ get_or (fact_bytes f) m 0) → fact_at cells v ≡ f
bytes_read cells v f fit same =
    facts_laws.local cells (fact_bytes f) (v * 8) 0
    (λ m h. same m h ∙ ap (λ (i : ℕ). get_or (fact_bytes f) i 0) (sym (zero-add m)))
    ∙ ap (fact_of (fact_byte f)) (u32_bytes_lem (fact_number f) fit)
    ∙ fact_of_lem f

-- the fact of each byte 0
pub fact_past : (byte n : ℕ) → 3 ≤ byte → fact_of byte n ≡ Marked
fact_past byte n h = get_or-eq_default (Marked ∷ Always n ∷ Open ∷ []) Marked h

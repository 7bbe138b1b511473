-- Which variables remain, and their numbers written behind the flags: the start, a turn and the end.
-- Assumes nothing.
use mathlib.Core.Path.{◌≡◌, refl, sym, ap, ◌∙◌}
use mathlib.Core.Bool.{Bool, true, false, not, ◌||◌}
use mathlib.Core.List.{List}
use Prim.Native.Nat.{ℕ, ◌+◌, ◌*◌, ◌≤◌, ◌<◌}
use native.Mathlib.Omega.{arith}
use borrow.Author.Tests.{ne_eqb}
use lib.Dec.{eqb}
use lib.ListN.{length, get_or, set}
use Rattle.net.specs.Chosen.{place_of}
use Rattle.net.proofs.Bools.{T_of}
use Rattle.net.proofs.Chosen.{place_passed, place_failed, place_most, place_agree}
use Rattle.buffer.specs.Kept.{Filled}
use Rattle.buffer.proofs.Filled.{filled_none, filled_more}
use Rattle.circuit.specs.Reading.{fields_at}
use Rattle.circuit.specs.Circuit.{Circuit, circuit}
use Rattle.circuit.proofs.Decoding.{input_test}
use Rattle.circuit.proofs.Tables.{circuit_record}
use Rattle.trim.specs.Ready.{remains, Numbered}

-- ---- one variable

module _ (t : List ℕ) (n v : ℕ) (h : v < n) (s : List ℕ) where
  remains_here : remains (circuit t n) s v ≡ (eqb (fields_at t (v * 16)).kind 0 || not (eqb (get_or s v 0) 0))
  remains_here = rw (circuit_record t n v h, input_test (fields_at t (v * 16)))

  pub input_remains : (fields_at t (v * 16)).kind ≡ 0 → true ≡ remains (circuit t n) s v
  input_remains e = rw (remains_here, e)

  pub other_remains : ((fields_at t (v * 16)).kind ≡ 0 → ⊥) → not (eqb (get_or s v 0) 0) ≡ remains (circuit t n) s v
  other_remains ne = rw (remains_here, ne_eqb (fields_at t (v * 16)).kind 0 ne)

pub remains_agree : (c : Circuit) (s s' : List ℕ) (v : ℕ) → get_or s v 0 ≡ get_or s' v 0 → remains c s v ≡ remains c s' v
remains_agree c s s' v e = rw e

-- ---- the place of the next variable

pub next_passed : (p : ℕ → Bool) (v : ℕ) → p v ≡ true → place_of p (v + 1) ≡ place_of p v + 1
next_passed p v e = place_passed p v (T_of (p v) e)

pub next_failed : (p : ℕ → Bool) (v : ℕ) → p v ≡ false → place_of p (v + 1) ≡ place_of p v
next_failed p v e = place_failed p v (T_of (not (p v)) (ap not e))

-- ---- the numbers

-- the numbers of the first i variables are written, and so many of them remain
pub record Numbering (t : List ℕ) (n : ℕ) (entry s : List ℕ) (count i : ℕ) : Type 0 where
  pub within : i ≤ n
  pub counted : count ≡ place_of (remains (circuit t n) entry) i
  pub filled : Filled n i (place_of (remains (circuit t n) entry)) entry s

module _ (t : List ℕ) (n : ℕ) (entry : List ℕ) where
  abbrev p : ℕ → Bool
  p = remains (circuit t n) entry

  pub none_numbered : Numbering t n entry entry 0 0
  unfolding place_of
  none_numbered = record { within = omega arith; counted = refl; filled = filled_none n (place_of p) entry }

  module _ {s : List ℕ} {count i : ℕ} (q : Numbering t n entry s count i) where
    pub count_small : count ≤ i
    count_small = omega (arith, q.counted, place_most p i)

    module _ (room : n + n ≤ length entry) (h : i < n) where
      pub number_lent : n + i < length s
      number_lent = omega (arith, q.filled.long)

      filled_next : Filled n (i + 1) (place_of p) entry (set s (n + i) count)
      filled_next = filled_more n i (n + i) count (place_of p) entry s refl number_lent q.counted q.filled

      -- whether variable i remains is seen in the scratch as it is now
      seen : remains (circuit t n) (set s (n + i) count) i ≡ p i
      seen = remains_agree (circuit t n) (set s (n + i) count) entry i (filled_next.before i h)

      module _ {b : Bool} (e : b ≡ remains (circuit t n) (set s (n + i) count) i) where
        pub numbered_passed : b ≡ true → Numbering t n entry (set s (n + i) count) (count + 1) (i + 1)
        numbered_passed told =
            record {
              within = omega arith;
              counted = omega (arith, q.counted, next_passed p i (sym seen ∙ sym e ∙ told));
              filled = filled_next;
            }

        pub numbered_failed : b ≡ false → Numbering t n entry (set s (n + i) count) count (i + 1)
        numbered_failed told =
            record {
              within = omega arith;
              counted = omega (arith, q.counted, next_failed p i (sym seen ∙ sym e ∙ told));
              filled = filled_next;
            }

-- what is written behind the flags leaves them as they were
pub numbered : (t : List ℕ) (n : ℕ) (entry s : List ℕ) → n + n ≤ length entry
    → Filled n n (place_of (remains (circuit t n) entry)) entry s → Numbered (circuit t n) n s
numbered t n entry s room filled =
    record {
      room = omega (arith, filled.long);
      number = λ v h.
          filled.here v h
          ∙ place_agree (remains (circuit t n) entry) (remains (circuit t n) s) v
          (λ u l. remains_agree (circuit t n) entry s u (sym (filled.before u (omega arith))));
    }

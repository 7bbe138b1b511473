-- The records of the variables that remain, and their old numbers, written one after another: the start, a turn and the
-- end.
-- Assumes nothing.
use mathlib.Core.Path.{◌≡◌, refl, sym, ap, ◌∙◌}
use mathlib.Core.Bool.{Bool, true, false}
use mathlib.Core.List.{List}
use Prim.Native.Nat.{ℕ, ◌+◌, ◌*◌, ◌≤◌, ◌<◌}
use native.Mathlib.Nat.{mul-one}
use native.Mathlib.Omega.{arith}
use lib.ListN.{length, get_or}
use Rattle.net.specs.Chosen.{chosen, place_of}
use Rattle.net.proofs.Bools.{T_of}
use Rattle.net.proofs.Chosen.{place_strict, place_most, chosen_place}
use Rattle.buffer.specs.Store.{numbers, Wrote, Holds}
use Rattle.buffer.proofs.Layouts.{numbers_laws}
use Rattle.circuit.specs.declared.record.Fields.{Fields}
use Rattle.circuit.specs.Circuit.{circuit}
use Rattle.engine.proofs.Passes.{Begun, none_begun, one_begun, all_begun}
use Rattle.trim.specs.Ready.{remains}
use Rattle.trim.specs.Cells.{field_cells, survivor_fields}
use Rattle.trim.proofs.Cells.{field_laws}
use Rattle.trim.proofs.Numbering.{next_passed, next_failed}

-- the variables that remain in order, and their fields, by their new numbers
abbrev pub old : List ℕ → ℕ → List ℕ → ℕ → ℕ
old t n s j = get_or (chosen (remains (circuit t n) s) n) j 0

abbrev pub old_fields : List ℕ → ℕ → List ℕ → List ℕ → ℕ → Fields
old_fields t n certificate s j = survivor_fields (circuit t n) certificate s (old t n s j)

-- those of the first i variables that remain are written, k of them
pub record Writing (t : List ℕ) (n : ℕ) (certificate s : List ℕ) (trimmed₀ trimmed numbers₀ numbers₁ : List ℕ)
    (k i : ℕ) : Type 0 where
  pub within : i ≤ n
  pub counted : k ≡ place_of (remains (circuit t n) s) i
  pub records : Begun field_cells (place_of (remains (circuit t n) s) n) (old_fields t n certificate s) trimmed₀ trimmed k
  pub olds : Begun numbers (place_of (remains (circuit t n) s) n) (old t n s) numbers₀ numbers₁ k

module _ (t : List ℕ) (n : ℕ) (certificate s trimmed₀ numbers₀ : List ℕ) where
  abbrev p : ℕ → Bool
  p = remains (circuit t n) s

  pub none_written : Writing t n certificate s trimmed₀ trimmed₀ numbers₀ numbers₀ 0 0
  unfolding place_of
  none_written =
      record {
        within = omega arith;
        counted = refl;
        records = none_begun trimmed₀;
        olds = none_begun numbers₀;
      }

  module _ {trimmed numbers₁ : List ℕ} {k i : ℕ}
      (w : Writing t n certificate s trimmed₀ trimmed numbers₀ numbers₁ k i) where
    module _ (h : i < n) {b : Bool} (e : b ≡ p i) where
      module _ (told : b ≡ true) where
        place_below : k < place_of p n
        place_below = omega (arith, w.counted, place_strict p i n h (T_of (p i) (sym e ∙ told)))

        here : old t n s k ≡ i
        here =
            ap (λ (j : ℕ). get_or (chosen p n) j 0) w.counted
            ∙ chosen_place p n i h (T_of (p i) (sym e ∙ told))

        pub count_small : k < n
        count_small = omega (arith, place_below, place_most p n)

        -- both outputs have room for one more
        pub still_lent : n * 16 ≤ length trimmed₀ → n ≤ length numbers₀
            → (k * 16 + 16 ≤ length trimmed) × (k < length numbers₁)
        still_lent records olds = (
          omega (arith, count_small, w.records.kept.long),
          omega (arith, count_small, w.olds.kept.long),
        )

        pub one_written : {trimmed' numbers' : List ℕ}
            → Wrote field_cells trimmed trimmed' (k * 16) (survivor_fields (circuit t n) certificate s i)
            → Wrote numbers numbers₁ numbers' k i
            → Writing t n certificate s trimmed₀ trimmed' numbers₀ numbers' (k + 1) (i + 1)
        one_written a c =
            record {
              within = omega arith;
              counted = omega (arith, w.counted, next_passed p i (sym e ∙ told));
              records =
                  one_begun field_laws w.records place_below refl
                  (ap (survivor_fields (circuit t n) certificate s) (sym here))
                  a;
              olds = one_begun numbers_laws w.olds place_below (sym (mul-one k)) (sym here) c;
            }

      pub none_more : b ≡ false → Writing t n certificate s trimmed₀ trimmed numbers₀ numbers₁ k (i + 1)
      none_more told =
          record {
            within = omega arith;
            counted = omega (arith, w.counted, next_failed p i (sym e ∙ told));
            records = w.records;
            olds = w.olds;
          }

    pub all_written : n ≤ i
        → Holds field_cells (place_of p n) (old_fields t n certificate s) trimmed₀ trimmed
        × Holds numbers (place_of p n) (old t n s) numbers₀ numbers₁
    all_written h =
        let e : i ≡ n = omega (arith, w.within) in
        let all : place_of p n ≤ k = omega (arith, w.counted, ap (place_of p) e) in
        (all_begun w.records all, all_begun w.olds all)

-- From what is visited and what is written to the definitions: what remains is what survives, and the outputs hold the
-- trimmed circuit's records and the survivors' old numbers.
-- Assumes nothing.
use mathlib.Core.Path.{◌≡◌, refl, sym, ap, ◌∙◌, fun_ext}
use mathlib.Core.Bool.{Bool, true, false, not, ◌||◌}
use mathlib.Core.List.{List, [], ◌∷◌, ◌++◌, map, flat_map, map-id, map-map}
use Prim.Native.Nat.{ℕ, ◌+◌, ◌*◌, ◌≤◌, ◌<◌}
use native.Mathlib.Omega.{arith}
use borrow.Author.Tests.{ne_eqb}
use lib.Dec.{T, eqb}
use lib.ListN.{length, get_or, drop, get_or-eq_default}
use Rattle.net.specs.Net.{list_below}
use Rattle.net.specs.Reach.{is_in, reached_set}
use Rattle.net.specs.Chosen.{chosen, place_of}
use Rattle.net.proofs.Cases.{by_same, by_le}
use Rattle.net.proofs.Chosen.{chosen_length, place_most}
use Rattle.buffer.specs.Kept.{Kept, KeptOutside, Filled}
use Rattle.buffer.specs.Store.{Holds, numbers}
use Rattle.buffer.proofs.Store.{holds_whole, numbers_whole}
use Rattle.circuit.specs.declared.record.Record.{Record}
use Rattle.circuit.specs.Record.{input_of, renumber}
use Rattle.circuit.specs.Reading.{encode, field_bytes, record_bytes}
use Rattle.circuit.specs.Circuit.{Circuit, circuit, record_of, graph}
use Rattle.circuit.specs.Stimuli.{is_input}
use Rattle.circuit.proofs.Tables.{circuit_length}
use Rattle.fact.specs.Fact.{fact_at}
use Rattle.trim.specs.Trimmed.{replaced, survives, survivors, new_number, trimmed}
use Rattle.trim.specs.Ready.{remains}
use Rattle.trim.specs.Cells.{field_cells, survivor_fields}
use Rattle.trim.specs.Visits.{VisitsReached}
use Rattle.trim.proofs.Cells.{field_laws}
use Rattle.trim.proofs.Replaced.{replaced_length, remains_replaced}

-- ---- lists

-- what a function makes of each number of a list, in order
below_map : {A B : Type 0} (h : A → B) (d : A) (l : List A) → list_below (λ j. h (get_or l j d)) (length l) ≡ map h l
unfolding list_below
below_map h d [] = refl
below_map h d (x ∷ l) = ap (λ (r : List _). h x ∷ r) (below_map h d l)

bytes_map : (rs : List Record) → flat_map field_bytes (map encode rs) ≡ flat_map record_bytes rs
unfolding flat_map
bytes_map [] = refl
bytes_map (r ∷ rs) = ap (λ (l : List ℕ). record_bytes r ++ l) (bytes_map rs)

-- ---- the scratch

-- flags and then numbers behind them lie in the first n + n
pub numbers_outside : {n : ℕ} {f : ℕ → ℕ} {entry visited numbered : List ℕ} → Kept (n + n) entry visited
    → Filled n n f visited numbered → KeptOutside 0 (n + n) entry numbered
numbers_outside k filled =
    record {
      long = filled.long ∙ k.long;
      before = λ i h. absurd (omega arith);
      beyond = λ i h. filled.beyond i h ∙ k.beyond i h;
    }

-- ---- what remains survives

same_tests : (a b : Bool) → (T a → T b) → (T b → T a) → a ≡ b
same_tests true true f g = refl
same_tests true false f g = absurd (f tt)
same_tests false true f g = absurd (g tt)
same_tests false false f g = refl

positive : (x : ℕ) → T (not (eqb x 0)) → 0 < x
positive x t = by_same x 0 (λ e. absurd (rw e at t)) (λ ne. omega arith)

not_zero : (x : ℕ) → 0 < x → T (not (eqb x 0))
not_zero x h = rw (ne_eqb x 0 (λ e. omega arith)) tt

module _ (t certificate kept : List ℕ) (n : ℕ) where
  abbrev c : Circuit
  c = replaced (circuit t n) (fact_at certificate)

  size : length c ≡ n
  size = replaced_length (circuit t n) (fact_at certificate) ∙ circuit_length t n

  -- where the flags stay, the same is visited
  pub visits_stay : {s s' : List ℕ} {f : ℕ → ℕ} → Filled n n f s s' → VisitsReached c kept n s
      → VisitsReached c kept n s'
  visits_stay filled m =
      record {
        sound = λ v h. rw (filled.before v h) (m.sound v h);
        whole = λ v h. rw (filled.before v h) (m.whole v h);
      }

  module _ {s : List ℕ} (m : VisitsReached c kept n s) where
    remains_called : (v : ℕ) → remains c s v ≡ survives c kept v
    unfolding survives
    remains_called v =
        by_le n v
        (λ past. rw (get_or-eq_default c _ {n = v} (omega (arith, size))))
        (λ below. ap (λ (b : Bool). is_input (input_of (record_of c v)) || b)
        (same_tests (not (eqb (get_or s v 0) 0)) (is_in (reached_set (graph c) kept) v)
        (λ k. m.sound v below (positive (get_or s v 0) k))
        (λ k. not_zero (get_or s v 0) (m.whole v below k))))

    remains_survives : (λ v. remains (circuit t n) s v) ≡ survives c kept
    remains_survives =
        fun_ext (λ v. sym (remains_replaced (circuit t n) (fact_at certificate) s v) ∙ remains_called v)

    -- how many remain
    pub count_is : place_of (remains (circuit t n) s) n ≡ length (survivors c kept)
    unfolding survivors
    count_is =
        ap (λ (p : ℕ → Bool). place_of p n) remains_survives
        ∙ ap (place_of (survives c kept)) (sym size)
        ∙ sym (chosen_length (survives c kept) (length c))

    -- the trimmed circuit's records
    pub records_written : {entry exit : List ℕ} → n * 16 ≤ length entry
        → Holds field_cells (place_of (remains (circuit t n) s) n)
        (λ j. survivor_fields (circuit t n) certificate s (get_or (chosen (remains (circuit t n) s) n) j 0)) entry exit
        → exit ≡ flat_map record_bytes (trimmed c kept) ++ drop (length (survivors c kept) * 16) entry
    unfolding trimmed survivors new_number
    records_written {entry} {exit} lent p =
        holds_whole field_laws (omega (arith, place_most (remains (circuit t n) s) n)) p
        ∙ ap (λ (q : ℕ → Bool). flat_map field_bytes
        (list_below (λ j. encode (renumber (place_of q) (record_of c (get_or (chosen q n) j 0)))) (place_of q n))
        ++ drop (place_of q n * 16) entry) remains_survives
        ∙ ap (λ (k : ℕ). flat_map field_bytes
        (list_below (λ j. encode (renumber (place_of S) (record_of c (get_or (chosen S k) j 0)))) (place_of S k))
        ++ drop (place_of S k * 16) entry) (sym size)
        ∙ ap (λ (k : ℕ). flat_map field_bytes
        (list_below (λ j. encode (renumber (place_of S) (record_of c (get_or (chosen S (length c)) j 0)))) k)
        ++ drop (k * 16) entry) (sym (chosen_length S (length c)))
        ∙ ap (λ (l : List ℕ). l ++ drop (length (survivors c kept) * 16) entry) whole
      where
        S : ℕ → Bool
        S = survives c kept

        whole : flat_map field_bytes
            (list_below (λ j. encode (renumber (place_of S) (record_of c (get_or (chosen S (length c)) j 0))))
            (length (chosen S (length c))))
            ≡ flat_map record_bytes (trimmed c kept)
        whole =
            ap (flat_map field_bytes)
            (below_map (λ v. encode (renumber (place_of S) (record_of c v))) 0 (chosen S (length c))
            ∙ sym (map-map encode (λ v. renumber (place_of S) (record_of c v)) (chosen S (length c))))
            ∙ bytes_map (map (λ v. renumber (place_of S) (record_of c v)) (chosen S (length c)))

    -- the survivors' old numbers
    pub olds_written : {entry exit : List ℕ} → n ≤ length entry
        → Holds numbers (place_of (remains (circuit t n) s) n)
        (λ j. get_or (chosen (remains (circuit t n) s) n) j 0) entry exit
        → exit ≡ survivors c kept ++ drop (length (survivors c kept)) entry
    unfolding survivors
    olds_written {entry} lent p =
        numbers_whole (omega (arith, place_most (remains (circuit t n) s) n)) p
        ∙ ap (λ (q : ℕ → Bool). list_below (λ j. get_or (chosen q n) j 0) (place_of q n) ++ drop (place_of q n) entry)
        remains_survives
        ∙ ap (λ (k : ℕ). list_below (λ j. get_or (chosen S k) j 0) (place_of S k) ++ drop (place_of S k) entry) (sym size)
        ∙ ap (λ (k : ℕ). list_below (λ j. get_or (chosen S (length c)) j 0) k ++ drop k entry)
        (sym (chosen_length S (length c)))
        ∙ ap (λ (l : List ℕ). l ++ drop (length (chosen S (length c))) entry)
        (below_map (λ x. x) 0 (chosen S (length c)) ∙ map-id (chosen S (length c)))
      where
        S : ℕ → Bool
        S = survives c kept

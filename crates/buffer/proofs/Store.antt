-- Stores in a buffer: one value written, one after another from the first on, what a store leads to, and the whole
-- buffer in the end.
-- Assumes nothing.
use mathlib.Core.Path.{◌≡◌, refl, sym, ap, ◌∙◌, subst}
use mathlib.Core.Logic.{⊎_elim}
use mathlib.Core.List.{List, [], ◌∷◌, ◌++◌, flat_map, append_assoc}
use Prim.Native.Nat.{ℕ, zero, suc, ◌+◌, ◌-◌, ◌*◌, ◌<◌, ◌≤◌}
use native.Mathlib.Nat.{not-suc-le-zero, mul-le-mul_right, suc-mul, zero-add, mul-one}
use native.Mathlib.Omega.{arith}
use lib.ListN.{length, get_or, take, drop, length-drop, take-append-drop, get_or-append}
use lib.Seq.{ext_get_or, length-take-le, get_or-take, get_or-drop, drop-drop}
use Rattle.net.specs.Net.{list_below, put}
use Rattle.buffer.specs.Kept.{Kept}
use Rattle.net.proofs.Cases.{by_same}
use Rattle.buffer.proofs.Filled.{kept_none, kept_trans}
use Rattle.net.proofs.Put.{put_same, put_other}
use Rattle.buffer.specs.Store.{Layout, numbers, Cell, Wrote, Stands, Holds, Moves}
use Rattle.buffer.proofs.Layouts.{LayoutLaws, numbers_laws, apart}

-- a place among the first n
place_below : (each n v : ℕ) → v < n → v * each + each ≤ n * each
place_below each n v h = omega (arith, mul-le-mul_right {m = suc v} {n = n} each h, suc-mul v each)

module _ {A : Type 0} {L : Layout A} where
  stands_as : {from n : ℕ} {s t : ℕ → A} {l : List ℕ} → Stands L from n s l → ((v : ℕ) → v < n → s v ≡ t v)
      → Stands L from n t l
  stands_as {from} {l = l} p e =
      record { cell = λ v h. subst (λ (x : A). Cell L l (from + v * L.each) x) (e v h) (p.cell v h) }

  pub stands_read : {n : ℕ} {s : ℕ → A} {l : List ℕ} → Stands L 0 n s l → (v : ℕ) → v < n → L.at l (v * L.each) ≡ s v
  stands_read {l = l} p v h = ap (L.at l) (sym (zero-add (v * L.each))) ∙ (p.cell v h).reads

  pub stands_none : (from : ℕ) (s : ℕ → A) (l : List ℕ) → Stands L from 0 s l
  stands_none from s l = record { cell = λ v h. absurd (not-suc-le-zero h) }

  pub kept_wrote : {n v i : ℕ} {a b b' : List ℕ} {x : A} → i ≡ v * L.each → v < n → Wrote L b b' i x
      → Kept (n * L.each) a b → Kept (n * L.each) a b'
  kept_wrote {n} {v} e h w p =
      record {
        long = w.kept.long ∙ p.long;
        beyond = λ j l. w.kept.beyond j (omega (arith, place_below L.each n v h)) ∙ p.beyond j l;
      }

  -- ---- what a store leads to

  pub moves_none : {n : ℕ} {l : List ℕ} → Moves L n (λ s. s) l l
  moves_none {l = l} = record { kept = kept_none _ l; leads = λ s p. p }

  pub moves_then : {n : ℕ} {F G : (ℕ → A) → ℕ → A} {a b c : List ℕ} → Moves L n F a b → Moves L n G b c
      → Moves L n (λ s. G (F s)) a c
  moves_then {F = F} p q =
      record { kept = kept_trans p.kept q.kept; leads = λ s h. q.leads (F s) (p.leads s h) }

  pub moves_as : {n : ℕ} {F G : (ℕ → A) → ℕ → A} {a b : List ℕ} → Moves L n F a b
      → ((s : ℕ → A) (v : ℕ) → v < n → F s v ≡ G s v) → Moves L n G a b
  moves_as p e = record { kept = p.kept; leads = λ s h. stands_as (p.leads s h) (e s) }

  pub holds_moves : {n : ℕ} {s : ℕ → A} {F : (ℕ → A) → ℕ → A} {a b c : List ℕ} → Holds L n s a b → Moves L n F b c
      → Holds L n (F s) a c
  holds_moves {s = s} p q =
      record { kept = kept_trans p.kept q.kept; stands = q.leads s p.stands }

module _ {A : Type 0} {L : Layout A} (layout : LayoutLaws L) where
  cell_same : {l l' : List ℕ} {i : ℕ} {x : A}
      → ((m : ℕ) → m < L.each → get_or l' (i + m) 0 ≡ get_or l (i + m) 0) → Cell L l i x → Cell L l' i x
  cell_same {l} {l'} {i} h p =
      record { stands = λ m q. h m q ∙ p.stands m q; reads = layout.local l' l i i h ∙ p.reads }

  -- a store that stands in front, in a longer list
  pub stands_front : {n : ℕ} {s : ℕ → A} (l rest : List ℕ) → n * L.each ≤ length l → Stands L 0 n s l
      → Stands L 0 n s (l ++ rest)
  stands_front {n} l rest room p =
      record {
        cell = λ v h.
            cell_same
            (λ m q.
            get_or-append l rest 0 (0 + v * L.each + m) (omega (arith, place_below L.each n v h)))
            (p.cell v h);
      }

  cell_elsewhere : {l l' : List ℕ} (from u v : ℕ) {i : ℕ} {x y : A} → i ≡ from + v * L.each → Wrote L l l' i x
      → (u ≡ v → ⊥) → Cell L l (from + u * L.each) y → Cell L l' (from + u * L.each) y
  cell_elsewhere from u v e w ne =
      cell_same (λ m h.
      ⊎_elim (λ q. w.kept.before (from + u * L.each + m) (omega arith))
      (λ q. w.kept.beyond (from + u * L.each + m) (omega arith))
      (apart L.each u v m h ne))

  -- one value written
  stands_wrote : {from n i : ℕ} {s : ℕ → A} {l l' : List ℕ} {x : A} (v : ℕ) → i ≡ from + v * L.each
      → Wrote L l l' i x → Stands L from n s l → Stands L from n (put s v x) l'
  stands_wrote {from} {s = s} {x = x} v e w p =
      record {
        cell = λ u h. by_same u v
            (λ q. rw (q, put_same s v x, ← e) w.cell)
            (λ ne. rw (put_other s v x u ne) (cell_elsewhere from u v e w ne (p.cell u h)));
      }

  -- one value more
  pub stands_more : {from j i : ℕ} {s : ℕ → A} {l l' : List ℕ} {x : A} → i ≡ from + j * L.each → x ≡ s j
      → Wrote L l l' i x → Stands L from j s l → Stands L from (j + 1) s l'
  stands_more {from} {j = j} e is w p =
      record {
        cell = λ u h. by_same u j
            (λ q. rw (q, ← e, ← is) w.cell)
            (λ ne. cell_elsewhere from u j e w ne (p.cell u (omega arith)));
      }

  pub moves_wrote : {n i : ℕ} {F G : (ℕ → A) → ℕ → A} {a b b' : List ℕ} {x : A} (v : ℕ) → Moves L n F a b
      → i ≡ v * L.each → v < n → Wrote L b b' i x
      → ((s : ℕ → A) → Stands L 0 n s a → (u : ℕ) → u < n → put (F s) v x u ≡ G s u)
      → Moves L n G a b'
  moves_wrote v p e h w same =
      record {
        kept = kept_wrote e h w p.kept;
        leads = λ s q. stands_as (stands_wrote v (e ∙ omega arith) w (p.leads s q)) (same s q);
      }

  -- ---- the whole buffer

  one_cell : (l : List ℕ) (i : ℕ) (x : A) → Cell L l i x → i + L.each ≤ length l
      → drop i l ≡ L.image x ++ drop (i + L.each) l
  one_cell l i x p room =
      sym (take-append-drop L.each (drop i l))
      ∙ ap (λ (r : List ℕ). r ++ drop L.each (drop i l)) front
      ∙ ap (λ (r : List ℕ). L.image x ++ r) (drop-drop L.each i l)
    where
      taken : length (take L.each (drop i l)) ≡ L.each
      taken = length-take-le L.each (drop i l) (omega (arith, length-drop i l))

      front : take L.each (drop i l) ≡ L.image x
      front =
          ext_get_or 0 (take L.each (drop i l)) (L.image x) (taken ∙ sym (layout.size x))
          (λ m h.
          let k : m < L.each = omega (arith, taken) in
          get_or-take L.each (drop i l) m 0 k ∙ get_or-drop i l m 0 ∙ p.stands m k)

  all_cells : (n from : ℕ) (s : ℕ → A) (l : List ℕ) → Stands L from n s l → from + n * L.each ≤ length l
      → drop from l ≡ flat_map L.image (list_below s n) ++ drop (from + n * L.each) l
  unfolding list_below flat_map
  all_cells zero from s l p room =
      let e : from ≡ from + 0 * L.each = omega arith in ap (λ (k : ℕ). drop k l) e
  all_cells (suc n) from s l p room =
      one_cell l from (s 0) first (omega (arith, suc-mul n L.each))
      ∙ ap (λ (r : List ℕ). L.image (s 0) ++ r)
      (all_cells n (from + L.each) (λ v. s (suc v)) l rest (omega (arith, suc-mul n L.each)))
      ∙ sym (append_assoc (L.image (s 0)) _ _)
      ∙ ap (λ (k : ℕ). (L.image (s 0) ++ flat_map L.image (list_below (λ v. s (suc v)) n)) ++ drop k l) past
    where
      start : from + 0 * L.each ≡ from
      start = omega arith

      first : Cell L l from (s 0)
      first = subst (λ (i : ℕ). Cell L l i (s 0)) start (p.cell 0 (omega arith))

      past : from + L.each + n * L.each ≡ from + suc n * L.each
      past = omega (arith, suc-mul n L.each)

      rest : Stands L (from + L.each) n (λ v. s (suc v)) l
      rest = record {
        cell = λ v h.
            let e : from + suc v * L.each ≡ from + L.each + v * L.each = omega (arith, suc-mul v L.each) in
            subst (λ (i : ℕ). Cell L l i (s (suc v))) e (p.cell (suc v) (omega arith));
      }

  pub holds_whole : {n : ℕ} {s : ℕ → A} {entry exit : List ℕ} → n * L.each ≤ length entry → Holds L n s entry exit
      → exit ≡ flat_map L.image (list_below s n) ++ drop (n * L.each) entry
  holds_whole {n} {s} {entry} {exit} room p =
      all_cells n 0 s exit p.stands (omega (arith, p.kept.long))
      ∙ ap (λ (k : ℕ). flat_map L.image (list_below s n) ++ drop k exit) (zero-add (n * L.each))
      ∙ ap (λ (r : List ℕ). flat_map L.image (list_below s n) ++ r) past
    where
      past : drop (n * L.each) exit ≡ drop (n * L.each) entry
      past =
          ext_get_or 0 (drop (n * L.each) exit) (drop (n * L.each) entry)
          (simp length-drop (ap (λ (k : ℕ). k - n * L.each) p.kept.long))
          (λ i h.
          get_or-drop (n * L.each) exit i 0 ∙ p.kept.beyond (n * L.each + i) (omega arith)
          ∙ sym (get_or-drop (n * L.each) entry i 0))

-- ---- numbers as themselves

pub numbers_read : {n : ℕ} {s : ℕ → ℕ} {l : List ℕ} → Stands numbers 0 n s l → (v : ℕ) → v < n → get_or l v 0 ≡ s v
numbers_read {l = l} p v h = ap (λ (i : ℕ). get_or l i 0) (sym (mul-one v)) ∙ stands_read p v h

numbers_image : (xs : List ℕ) → flat_map numbers.image xs ≡ xs
unfolding flat_map
numbers_image [] = refl
numbers_image (x ∷ xs) = ap (λ (l : List ℕ). x ∷ l) (numbers_image xs)

pub numbers_whole : {n : ℕ} {s : ℕ → ℕ} {entry exit : List ℕ} → n ≤ length entry → Holds numbers n s entry exit
    → exit ≡ list_below s n ++ drop n entry
numbers_whole {n} {s} {entry} room p =
    holds_whole numbers_laws (omega arith) p
    ∙ ap (λ (r : List ℕ). r ++ drop (n * 1) entry) (numbers_image (list_below s n))
    ∙ ap (λ (k : ℕ). list_below s n ++ drop k entry) (mul-one n)

-- Loops that store one number a turn, and the whole list that is left when a row stands in front and zeros fill the
-- rest of a part.
-- Assumes nothing.
use mathlib.Core.Path.{◌≡◌, refl, sym, ap, ◌∙◌}
use mathlib.Core.List.{List, [], ◌++◌}
use Prim.Native.Nat.{ℕ, ◌+◌, ◌-◌, ◌≤◌, ◌<◌}
use native.Mathlib.Nat.{not-suc-le-zero}
use native.Mathlib.Omega.{arith}
use lib.ListN.{length, get_or, set, drop, replicate, length-append, length-drop, length-set, length-replicate}
use lib.ListN.{get_or-replicate, get_or-append}
use lib.Seq.{get_or-set_same, get_or-set_other, get_or-append-add, get_or-drop, ext_get_or}
use Rattle.buffer.specs.Kept.{Kept, KeptOutside, Filled}
use Rattle.net.proofs.Cases.{by_same, by_le}

pub kept_trans : {m : ℕ} {a b c : List ℕ} → Kept m a b → Kept m b c → Kept m a c
kept_trans p q = record { long = q.long ∙ p.long; beyond = λ i l. q.beyond i l ∙ p.beyond i l }

pub kept_none : (m : ℕ) (a : List ℕ) → Kept m a a
kept_none m a = record { long = refl; beyond = λ i l. refl }

pub kept_wider : {m m' : ℕ} {a b : List ℕ} → m ≤ m' → Kept m a b → Kept m' a b
kept_wider h p = record { long = p.long; beyond = λ i l. p.beyond i (omega arith) }

pub outside_kept : {from to : ℕ} {a b : List ℕ} → KeptOutside from to a b → Kept to a b
outside_kept p = record { long = p.long; beyond = p.beyond }

-- past some numbers behind the first k, whatever stands in front
pub kept_behind : {m : ℕ} (k : ℕ) (l front back : List ℕ) → k ≤ length l → length front ≡ k → Kept m (drop k l) back
    → Kept (k + m) l (front ++ back)
kept_behind {m} k l front back h e p =
    record {
      long = omega (arith, length-append front back, p.long, length-drop k l);
      beyond = λ i low.
          let place : i ≡ length front + (i - k) = omega arith in
          let same : k + (i - k) ≡ i = omega arith in
          ap (λ (j : ℕ). get_or (front ++ back) j 0) place
          ∙ get_or-append-add front back (i - k) 0
          ∙ p.beyond (i - k) (omega arith)
          ∙ get_or-drop k l (i - k) 0
          ∙ ap (λ (j : ℕ). get_or l j 0) same;
    }

pub outside_trans : {from to : ℕ} {a b c : List ℕ} → KeptOutside from to a b → KeptOutside from to b c
    → KeptOutside from to a c
outside_trans p q =
    record {
      long = q.long ∙ p.long;
      before = λ i l. q.before i l ∙ p.before i l;
      beyond = λ i l. q.beyond i l ∙ p.beyond i l;
    }

pub outside_none : (from to : ℕ) (a : List ℕ) → KeptOutside from to a a
outside_none from to a = record { long = refl; before = λ i l. refl; beyond = λ i l. refl }

-- one number more inside
pub outside_set : {from to : ℕ} {a b : List ℕ} (j x : ℕ) → from ≤ j → j < to → KeptOutside from to a b
    → KeptOutside from to a (set b j x)
outside_set {b = b} j x low high p =
    record {
      long = length-set b j x ∙ p.long;
      before = λ i l. get_or-set_other b j i x 0 (λ e. omega arith) ∙ p.before i l;
      beyond = λ i l. get_or-set_other b j i x 0 (λ e. omega arith) ∙ p.beyond i l;
    }

-- what lies outside a region lies outside a region in it
pub outside_wider : {from to from' to' : ℕ} {a b : List ℕ} → from ≤ from' → to' ≤ to → KeptOutside from' to' a b
    → KeptOutside from to a b
outside_wider low high p =
    record {
      long = p.long;
      before = λ i l. p.before i (omega arith);
      beyond = λ i l. p.beyond i (omega arith);
    }

pub filled_kept : (m : ℕ) {from count : ℕ} {f : ℕ → ℕ} {a b : List ℕ} → from + count ≤ m → Filled from count f a b
    → Kept m a b
filled_kept m h filled =
    record { long = filled.long; beyond = λ i l. filled.beyond i (omega arith) }

pub filled_none : (from : ℕ) (f : ℕ → ℕ) (s : List ℕ) → Filled from 0 f s s
filled_none from f s =
    record { long = refl; here = λ i l. absurd (not-suc-le-zero l); before = λ i l. refl; beyond = λ i l. refl }

pub filled_more : (from count j x : ℕ) (f : ℕ → ℕ) (s₀ s : List ℕ) → j ≡ from + count → j < length s → x ≡ f count
    → Filled from count f s₀ s → Filled from (count + 1) f s₀ (set s j x)
filled_more from count j x f s₀ s e h v filled =
    let cell : ℕ → ℕ = λ i. get_or (set s j x) i 0 in
    let other : (i : ℕ) → (i ≡ j → ⊥) → cell i ≡ get_or s i 0 = λ i ne. get_or-set_other s j i x 0 ne in
    record {
      long = length-set s j x ∙ filled.long;
      here = λ i l. by_same i count
          (λ z.
          let place : from + i ≡ j = omega arith in
          ap cell place ∙ get_or-set_same s j x 0 h ∙ v ∙ ap f (sym z))
          (λ z. other (from + i) (λ y. z (omega arith)) ∙ filled.here i (omega arith));
      before = λ i l. other i (λ z. omega arith) ∙ filled.before i l;
      beyond = λ i l. other i (λ z. omega arith) ∙ filled.beyond i (omega arith);
    }

pub filled_zero : (from to : ℕ) (s₀ s : List ℕ) → Filled from (to - from) (λ _. 0) s₀ s
    → (i : ℕ) → from ≤ i → i < to → get_or s i 0 ≡ 0
filled_zero from to s₀ s filled i l l' =
    let e : i ≡ from + (i - from) = omega arith in
    ap (λ (x : ℕ). get_or s x 0) e ∙ filled.here (i - from) (omega arith)

-- a row, zeros up to the end of the part, and what was past the part
module _ (part size : ℕ) (row entry exit : List ℕ) (row_length : length row ≡ size) (fits : size ≤ part)
    (lent : part ≤ length entry) (long : length exit ≡ length entry)
    (front : (i : ℕ) → i < size → get_or exit i 0 ≡ get_or row i 0)
    (zeros : (i : ℕ) → size ≤ i → i < part → get_or exit i 0 ≡ 0)
    (past : (i : ℕ) → part ≤ i → get_or exit i 0 ≡ get_or entry i 0) where
  abbrev clear : List ℕ
  clear = replicate (part - size) 0

  rest_at : (i : ℕ) → size ≤ i
      → get_or (row ++ (clear ++ drop part entry)) i 0 ≡ get_or (clear ++ drop part entry) (i - size) 0
  rest_at i l =
      let e : i ≡ length row + (i - size) = omega arith in
      ap (λ (x : ℕ). get_or (row ++ (clear ++ drop part entry)) x 0) e
      ∙ get_or-append-add row (clear ++ drop part entry) (i - size) 0

  zero_at : (i : ℕ) → i < part - size → get_or (clear ++ drop part entry) i 0 ≡ 0
  zero_at i l =
      get_or-append clear (drop part entry) 0 i (omega (arith, length-replicate {A = ℕ} (part - size) 0))
      ∙ get_or-replicate (part - size) i 0 0 l

  past_at : (i : ℕ) → part ≤ i → get_or (clear ++ drop part entry) (i - size) 0 ≡ get_or entry i 0
  past_at i l =
      let e : i - size ≡ length clear + (i - part) = omega (arith, length-replicate {A = ℕ} (part - size) 0) in
      let e' : part + (i - part) ≡ i = omega arith in
      ap (λ (x : ℕ). get_or (clear ++ drop part entry) x 0) e
      ∙ get_or-append-add clear (drop part entry) (i - part) 0
      ∙ get_or-drop part entry (i - part) 0
      ∙ ap (λ (x : ℕ). get_or entry x 0) e'

  pub in_part : exit ≡ row ++ (replicate (part - size) 0 ++ drop part entry)
  in_part =
      ext_get_or 0 exit (row ++ (clear ++ drop part entry))
      (simp (length-append, length-replicate, length-drop) (omega arith))
      (λ i l. by_le size i
      (λ h. by_le part i
      (λ k. past i k ∙ sym (rest_at i h ∙ past_at i k))
      (λ k. zeros i h k ∙ sym (rest_at i h ∙ zero_at (i - size) (omega arith))))
      (λ h. front i h ∙ sym (get_or-append row (clear ++ drop part entry) 0 i (omega arith))))

-- zeros over a part in which all that was written lies
pub part_cleared : (from to part : ℕ) (entry scratch exit : List ℕ) → KeptOutside from to entry scratch → to ≤ part
    → part ≤ length entry → Filled 0 (part - 0) (λ _. 0) scratch exit → exit ≡ replicate part 0 ++ drop part entry
part_cleared from to part entry scratch exit kept h lent filled =
    let whole : part - 0 ≡ part = omega arith in
    in_part part 0 [] entry exit refl (omega arith) lent (filled.long ∙ kept.long)
    (λ i l. absurd (not-suc-le-zero l))
    (λ i _ l. filled_zero 0 part scratch exit filled i (omega arith) l)
    (λ i l. filled.beyond i (omega arith) ∙ kept.beyond i (omega arith))
    ∙ ap (λ (k : ℕ). replicate k 0 ++ drop part entry) whole

-- what is kept past some place of the part is cleared with it
pub kept_cleared : (m part : ℕ) (entry scratch exit : List ℕ) → Kept m entry scratch → m ≤ part
    → part ≤ length entry → Filled 0 (part - 0) (λ _. 0) scratch exit → exit ≡ replicate part 0 ++ drop part entry
kept_cleared m part entry scratch exit kept =
    part_cleared 0 m part entry scratch exit
    (record { long = kept.long; before = λ i l. absurd (not-suc-le-zero l); beyond = kept.beyond })

-- The computed row is the path: where there is a row of at most so many variables, the lowest of the shortest is
-- found. So every marked variable of the least closed store has a path.
-- Assumes nothing.
use mathlib.Core.Path.{◌≡◌, refl, ap, ◌∙◌, subst, sym}
use mathlib.Core.Logic.{◌⊎◌, inl, inr, ⊎_elim}
use mathlib.Core.Bool.{Bool, true, false, ◌&&◌}
use mathlib.Core.List.{List, [], ◌∷◌}
use Prim.Native.Nat.{ℕ, zero, suc, ◌+◌, ◌-◌, ◌≤◌, ◌<◌, min}
use native.Mathlib.Nat.{not-suc-le-zero, le_refl}
use native.Mathlib.Numerals.{add-one}
use native.Mathlib.Omega.{arith}
use lib.Dec.{T, eqb, ltb, eqb→eq, ltb→lt, lt→ltb}
use lib.ListN.{length, get_or}
use Rattle.net.specs.Tests.{member}
use Rattle.net.proofs.Bools.{T_of, cond_case, and_left, and_right, and_both, or_cases, or_left, or_right, member_1}
use Rattle.net.proofs.Cases.{by_le, by_same}
use Rattle.circuit.specs.Circuit.{Circuit, record_of}
use Rattle.circuit.proofs.Tables.{Inside}
use Rattle.fact.specs.declared.Fact.{Fact}
use Rattle.fact.specs.declared.Fact.TheVariants.{Marked}
use Rattle.fact.specs.Certificate.{LeastStore}
use Rattle.path.specs.Row.{uses_under, is_marked, secret, Under, Row, PathOf}
use Rattle.path.specs.Lowest.{passing, lowest, marked_in, has_row, lowest_row, path_from, path_within}
use Rattle.path.proofs.Rows.{start, walk_row}
use Rattle.path.proofs.Marked.{marked_is, member_some, marked_has_row}

-- ---- the numbers of a list that pass a test

module _ (p : ℕ → Bool) where
  passing_of : (l : List ℕ) (u : ℕ) → T (member u l) → T (p u) → T (member u (passing p l))
  unfolding member passing
  passing_of [] u m t = absurd m
  passing_of (x ∷ xs) u m t =
      cond_case (λ l. T (member u l)) (p x)
      (λ e. or_cases (eqb u x) (member u xs) m (or_left (eqb u x) (member u (passing p xs)))
      (λ k. or_right (eqb u x) (member u (passing p xs)) (passing_of xs u k t)))
      (λ e. or_cases (eqb u x) (member u xs) m (λ k. absurd (rw (eqb→eq u x k, e) at t))
      (λ k. passing_of xs u k t))

  passing_is : (l : List ℕ) (u : ℕ) → T (member u (passing p l)) → T (member u l) × T (p u)
  unfolding member passing
  passing_is [] u = λ m. absurd m
  passing_is (x ∷ xs) u =
      let later : T (member u (passing p xs)) → T (member u (x ∷ xs)) × T (p u) =
      λ k. let (m, t) = passing_is xs u k in (or_right (eqb u x) (member u xs) m, t) in
      cond_case (λ l. T (member u l) → T (member u (x ∷ xs)) × T (p u)) (p x)
      (λ e m. or_cases (eqb u x) (member u (passing p xs)) m
      (λ k. (or_left (eqb u x) (member u xs) k, rw (eqb→eq u x k, e) tt)) later)
      (λ e. later)

-- ---- the lowest number of a list

lowest_member : (l : List ℕ) → 0 < length l → T (member (lowest l) l)
unfolding member
lowest_member [] h = absurd (not-suc-le-zero h)
lowest_member (x ∷ []) h = member_1 x []
lowest_member (x ∷ y ∷ ys) h =
    by_le x (lowest (y ∷ ys))
    (λ k. let e : min x (lowest (y ∷ ys)) ≡ x = omega arith in
    subst (λ (m : ℕ). T (member m (x ∷ y ∷ ys))) (sym e) (member_1 x (y ∷ ys)))
    (λ k.
    let e : min x (lowest (y ∷ ys)) ≡ lowest (y ∷ ys) = omega arith in
    subst (λ (m : ℕ). T (member m (x ∷ y ∷ ys))) (sym e)
    (or_right (eqb (lowest (y ∷ ys)) x) (member (lowest (y ∷ ys)) (y ∷ ys))
    (lowest_member (y ∷ ys) (omega arith))))

lowest_least : (l : List ℕ) (u : ℕ) → T (member u l) → lowest l ≤ u
unfolding member
lowest_least [] u m = absurd m
lowest_least (x ∷ []) u m = or_cases (eqb u x) false m (λ k. omega (arith, eqb→eq u x k)) (λ k. absurd k)
lowest_least (x ∷ y ∷ ys) u m =
    or_cases (eqb u x) (member u (y ∷ ys)) m
    (λ k. omega (arith, eqb→eq u x k))
    (λ k. omega (arith, lowest_least (y ∷ ys) u k))

module _ (c : Circuit) (s : ℕ → Fact) where
  -- ---- a row, its first variable and the rest

  row_one : {v : ℕ} → v < length c → s v ≡ Marked → T (secret c v) → Row c s v (v ∷ [])
  row_one h e t = walk_row (start h e) t

  -- a marked variable before a row of a use
  row_before : {v u : ℕ} {row : List ℕ} → v < length c → s v ≡ Marked → Under c s v u → Row c s u row
      → Row c s v (v ∷ row)
  row_before {v} {u} {row} h e d r =
      record {
        some = omega arith;
        first = refl;
        marked = marked;
        next = next;
        last =
            let place : length (v ∷ row) - 1 ≡ suc (length row - 1) = omega (arith, r.some) in
            rw place r.last;
      }
    where
      marked : (i : ℕ) → i < length (v ∷ row) → (get_or (v ∷ row) i 0 < length c) × (s (get_or (v ∷ row) i 0) ≡ Marked)
      marked zero l = (h, e)
      marked (suc i) l = r.marked i (omega arith)

      next : (i : ℕ) → i + 1 < length (v ∷ row) → Under c s (get_or (v ∷ row) i 0) (get_or (v ∷ row) (i + 1) 0)
      next zero l = rw r.first d
      next (suc i) l = rw (add-one (suc i), ← add-one i) (r.next i (omega arith))

  -- of more than one, the second is a use of the first, and the rest is a row
  row_use : {v x y : ℕ} {rest : List ℕ} → Row c s v (x ∷ y ∷ rest) → Under c s v y
  row_use r = rw r.first at (r.next 0 (omega arith))

  row_rest : {v x y : ℕ} {rest : List ℕ} → Row c s v (x ∷ y ∷ rest) → Row c s y (y ∷ rest)
  row_rest {v} {x} {y} {rest} r =
      record {
        some = omega arith;
        first = refl;
        marked = λ i l. r.marked (suc i) (omega arith);
        next = λ i l. rw (add-one i) (rw (add-one (suc i)) at (r.next (suc i) (omega arith)));
        last =
            let place : length (x ∷ y ∷ rest) - 1 ≡ suc (length (y ∷ rest) - 1) = omega arith in
            rw place at r.last;
      }

  -- ---- marked variables

  row_marked : {v : ℕ} {row : List ℕ} → Row c s v row → T (marked_in c s v)
  row_marked {v} r =
      let (h, e) = rw r.first at (r.marked 0 r.some) in
      and_both (ltb v (length c)) (is_marked (s v)) (lt→ltb v (length c) h) (rw e tt)

  in_marked : (v : ℕ) → T (marked_in c s v) → (v < length c) × (s v ≡ Marked)
  in_marked v t = (
    ltb→lt v (length c) (and_left (ltb v (length c)) (is_marked (s v)) t),
    marked_is (s v) (and_right (ltb v (length c)) (is_marked (s v)) t),
  )

  -- ---- there is a row

  -- the uses of v that have a row of k + 1 variables
  abbrev onwards : ℕ → ℕ → List ℕ
  onwards k v = passing (has_row c s k) (uses_under s (record_of c v))

  -- the lowest of them
  abbrev onward : ℕ → ℕ → ℕ
  onward k v = lowest (onwards k v)

  has_marked : (k v : ℕ) → has_row c s (suc k) v ≡ (marked_in c s v && ltb 0 (length (onwards k v)))
  unfolding has_row
  has_marked k v = go (marked_in c s v) (ltb 0 (length (onwards k v)))
    where
      go : (a b : Bool) → elim a [ true ↦ b | false ↦ false ] ≡ (a && b)
      go true b = refl
      go false b = refl

  -- a marked variable with a use that has a row has one
  has_more : (k v u : ℕ) → T (marked_in c s v) → T (member u (onwards k v)) → T (has_row c s (suc k) v)
  has_more k v u t m =
      rw (has_marked k v)
      (and_both (marked_in c s v) (ltb 0 (length (onwards k v))) t
      (lt→ltb 0 (length (onwards k v)) (member_some u (onwards k v) m)))

  -- and where it has one, it is marked, and its lowest use that has one is a use that has one
  more_has : (k v : ℕ) → T (has_row c s (suc k) v)
      → T (marked_in c s v) × Under c s v (onward k v) × T (has_row c s k (onward k v))
  more_has k v t =
      let both = rw (has_marked k v) at t in
      let some = ltb→lt 0 (length (onwards k v)) (and_right (marked_in c s v) (ltb 0 (length (onwards k v))) both) in
      let (d, u) =
      passing_is (has_row c s k) (uses_under s (record_of c v)) (onward k v) (lowest_member (onwards k v) some) in
      (and_left (marked_in c s v) (ltb 0 (length (onwards k v))) both, d, u)

  -- a row says that there is one
  row_has : (k : ℕ) {v : ℕ} (row : List ℕ) → Row c s v row → length row ≡ suc k → T (has_row c s k v)
  unfolding has_row
  row_has k [] r e = absurd (omega arith)
  row_has zero {v} (x ∷ []) r e =
      and_both (marked_in c s v) (secret c v) (row_marked r) (rw r.first at r.last)
  row_has (suc k) (x ∷ []) r e = absurd (omega arith)
  row_has zero (x ∷ y ∷ rest) r e = absurd (omega arith)
  row_has (suc k) {v} (x ∷ y ∷ rest) r e =
      has_more k v y (row_marked r)
      (passing_of (has_row c s k) (uses_under s (record_of c v)) y (row_use r)
      (row_has k (y ∷ rest) (row_rest r) (omega arith)))

  -- ---- the lowest row

  lowest_length : (k v : ℕ) → length (lowest_row c s k v) ≡ suc k
  unfolding lowest_row
  lowest_length zero v = refl
  lowest_length (suc k) v = ap suc (lowest_length k (onward k v))

  -- where there is a row the lowest is one
  lowest_row_lem : (k v : ℕ) → T (has_row c s k v) → Row c s v (lowest_row c s k v)
  unfolding has_row lowest_row
  lowest_row_lem zero v t =
      let (h, e) = in_marked v (and_left (marked_in c s v) (secret c v) t) in
      row_one h e (and_right (marked_in c s v) (secret c v) t)
  lowest_row_lem (suc k) v t =
      let (m, d, u) = more_has k v t in
      let (h, e) = in_marked v m in
      row_before h e d (lowest_row_lem k (onward k v) u)

  lowest_begins : (k v : ℕ) → get_or (lowest_row c s k v) 0 0 ≡ v
  unfolding lowest_row
  lowest_begins zero v = refl
  lowest_begins (suc k) v = refl

  lowest_after : (k v i : ℕ) → get_or (lowest_row c s (suc k) v) (suc i) 0 ≡ get_or (lowest_row c s k (onward k v)) i 0
  unfolding lowest_row
  lowest_after k v i = refl

  -- no row of as many goes on at a lower variable
  onward_least : (k v : ℕ) {x y : ℕ} {rest : List ℕ} → Row c s v (x ∷ y ∷ rest) → length (y ∷ rest) ≡ suc k
      → onward k v ≤ y
  onward_least k v {x} {y} {rest} r e =
      lowest_least (onwards k v) y
      (passing_of (has_row c s k) (uses_under s (record_of c v)) y (row_use r) (row_has k (y ∷ rest) (row_rest r) e))

  -- where a row of as many is the same before place i, the lowest row's number there is at most its number
  lowest_at : (k v : ℕ) (other : List ℕ) → Row c s v other → length other ≡ suc k → (i : ℕ) → i < suc k
      → ((j : ℕ) → j < i → get_or other j 0 ≡ get_or (lowest_row c s k v) j 0)
      → get_or (lowest_row c s k v) i 0 ≤ get_or other i 0
  lowest_at k v other r e zero h same = rw (lowest_begins k v, r.first) (le_refl _)
  lowest_at zero v other r e (suc i) h same = absurd (omega arith)
  lowest_at (suc k) v [] r e (suc i) h same = absurd (omega arith)
  lowest_at (suc k) v (x ∷ []) r e (suc i) h same = absurd (omega arith)
  lowest_at (suc k) v (x ∷ y ∷ rest) r e (suc zero) h same =
      rw (lowest_after k v 0, lowest_begins k (onward k v)) (onward_least k v r (omega arith))
  lowest_at (suc k) v (x ∷ y ∷ rest) r e (suc (suc i)) h same =
      let met : y ≡ onward k v = same 1 (omega arith) ∙ lowest_after k v 0 ∙ lowest_begins k (onward k v) in
      rw (lowest_after k v (suc i))
      (lowest_at k (onward k v) (y ∷ rest) (subst (λ (u : ℕ). Row c s u (y ∷ rest)) met (row_rest r)) (omega arith)
      (suc i) (omega arith) (λ j l. same (suc j) (omega arith) ∙ lowest_after k v j))

  -- ---- the path

  -- there is no row of fewer than k + 1 variables
  abbrev NoneBelow : ℕ → ℕ → Type 0
  NoneBelow k v = (j : ℕ) → j < k → T (has_row c s j v) → ⊥

  -- then the lowest of k + 1 is the path
  fewest_path : (k v : ℕ) → T (has_row c s k v) → NoneBelow k v → PathOf c s v (lowest_row c s k v)
  fewest_path k v t none =
      record {
        is_row = lowest_row_lem k v t;
        shortest = λ other r.
            by_le (length (lowest_row c s k v)) (length other) (λ h. h)
            (λ h. absurd (none (length other - 1) (omega (arith, lowest_length k v, r.some))
            (row_has (length other - 1) other r (omega (arith, r.some)))));
        lowest = λ other r e i h same.
            lowest_at k v other r (e ∙ lowest_length k v) i (omega (arith, lowest_length k v)) same;
      }

  none_more : (k v : ℕ) → has_row c s k v ≡ false → NoneBelow k v → NoneBelow (suc k) v
  none_more k v e none j h t = by_same j k (λ q. rw (q, e) at t) (λ q. none j (omega arith) t)

  -- the path, or nothing where there is no row of so many or fewer
  abbrev Answers : ℕ → ℕ → List ℕ → Type 0
  Answers limit v row = PathOf c s v row ⊎ ((row ≡ []) × NoneBelow (suc limit) v)

  from_answers : (limit k v : ℕ) → NoneBelow k v → Answers (k + limit) v (path_from c s limit k v)
  unfolding path_from
  from_answers zero k v none = go (has_row c s k v) refl
    where
      go : (b : Bool) → has_row c s k v ≡ b → Answers (k + 0) v (elim b [ true ↦ lowest_row c s k v | false ↦ [] ])
      go true e = inl (fewest_path k v (T_of _ e) none)
      go false e = inr (refl, λ j h. none_more k v e none j (omega arith))
  from_answers (suc limit) k v none = go (has_row c s k v) refl (from_answers limit (suc k) v)
    where
      go : (b : Bool) → has_row c s k v ≡ b
          → (NoneBelow (suc k) v → Answers (suc k + limit) v (path_from c s limit (suc k) v))
          → Answers (k + suc limit) v (elim b [ true ↦ lowest_row c s k v | false ↦ path_from c s limit (suc k) v ])
      go true e later = inl (fewest_path k v (T_of _ e) none)
      go false e later =
          let same : suc k + limit ≡ k + suc limit = omega arith in
          rw same at (later (none_more k v e none))

  within_answers : (limit v : ℕ) → Answers limit v (path_within c s limit v)
  unfolding path_within
  within_answers limit v =
      let same : 0 + limit ≡ limit = omega arith in
      rw same at (from_answers limit 0 v (λ j h. absurd (not-suc-le-zero h)))

  -- where there is a row of at most limit + 1 variables, the path is computed
  pub path_within_lem : (limit v : ℕ) (row : List ℕ) → Row c s v row → length row ≤ limit + 1
      → PathOf c s v (path_within c s limit v)
  path_within_lem limit v row r h =
      ⊎_elim (λ p. p)
      (λ none. absurd (none.1 (length row - 1) (omega (arith, r.some))
      (row_has (length row - 1) row r (omega (arith, r.some)))))
      (within_answers limit v)

  -- a row that is computed is the path
  pub path_computed : (limit v : ℕ) → 0 < length (path_within c s limit v) → PathOf c s v (path_within c s limit v)
  path_computed limit v h =
      ⊎_elim (λ p. p) (λ none. absurd (not-suc-le-zero (rw none.0 at h))) (within_answers limit v)

-- ---- every marked variable of the least closed store has a path

pub marked_has_path : (c : Circuit) → Inside c → (s : ℕ → Fact) → LeastStore c s → (v : ℕ) → v < length c
    → s v ≡ Marked → (row : List ℕ) × PathOf c s v row
marked_has_path c inside s least v h e =
    let (row, r) = marked_has_row c inside s least v h e in
    (path_within c s (length row) v, path_within_lem c s (length row) v row r (omega arith))

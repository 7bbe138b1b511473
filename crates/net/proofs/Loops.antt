-- A net has a loop or a rank of its wires, and not both. A wire is in layer k + 1 if all that it uses is in layer k;
-- inputs and registers are in every layer. If every variable is in layer n, of n variables, the first layer of each
-- is a rank. If one isn't, n uses lead on from it along wires, and a wire that comes twice on that way closes a loop.
-- Assumes nothing.
use mathlib.Core.Path.{◌≡◌, refl, sym, ap, ◌∙◌}
use mathlib.Core.Logic.{◌⊎◌, inl, inr, ⊎_elim}
use mathlib.Core.Bool.{Bool, true, false, not, cond, ◌&&◌, ◌||◌}
use mathlib.Core.List.{List, [], ◌∷◌}
use Prim.Native.Nat.{ℕ, zero, suc, ◌+◌, ◌-◌, ◌≤◌, ◌<◌, pred, zero-le}
use native.Mathlib.Nat.{not-suc-le-zero, le_of_suc-le-suc, le_trans, le_of_eq}
use native.Mathlib.Numerals.{add-one, sub-one}
use native.Mathlib.Omega.{arith}
use lib.Dec.{T, eqb, eqb→eq, eqb_refl}
use lib.ListN.{length, get_or}
use Rattle.net.specs.Tests.{all_below, every, member}
use Rattle.net.specs.Net.{Graph, input, wire, register, sum_below}
use Rattle.net.specs.Loop.{Uses, Loop}
use Rattle.net.proofs.Bools.{T_of, of_T, true_false, by_test, not_both, cond_case, and_left, and_right, and_both, or_cases, or_left, or_right, all_at, fails_below, every_at, fails}
use Rattle.net.proofs.Sums.{sum_add, sum_at, sum_one, sum_mono}
use Rattle.net.proofs.Settle.{Ranked, by_role}

-- ---- the first number that passes

-- the first number below n at which the test passes, or n
first : (ℕ → Bool) → ℕ → ℕ
first p zero = zero
first p (suc n) = elim (p zero) [ true ↦ zero | false ↦ suc (first (λ k. p (suc k)) n) ]

first_passes : (p : ℕ → Bool) (n : ℕ) → T (p n) → T (p (first p n))
unfolding first
first_passes p zero t = t
first_passes p (suc n) t = go (p zero) refl (first_passes (λ k. p (suc k)) n t)
  where
    go : (b : Bool) → p zero ≡ b → T (p (suc (first (λ k. p (suc k)) n))) → T (p (first p (suc n)))
    go true e ih = rw (e, first) (T_of _ e)
    go false e ih = rw (e, first) ih

first_least : (p : ℕ → Bool) (n j : ℕ) → T (p j) → first p n ≤ j
unfolding first
first_least p zero j t = zero-le
first_least p (suc n) zero t = rw (of_T (p zero) t, first) zero-le
first_least p (suc n) (suc j) t = go (p zero) refl (first_least (λ k. p (suc k)) n j t)
  where
    go : (b : Bool) → p zero ≡ b → first (λ k. p (suc k)) n ≤ j → first p (suc n) ≤ suc j
    go true e ih = rw (e, first) zero-le
    go false e ih = rw (e, first) (omega arith)

-- ---- lists without repetition

distinct : List ℕ → Bool
distinct [] = true
distinct (x ∷ xs) = not (member x xs) && distinct xs

-- what stands at a place of a list stands in it
pub member_get_or : (l : List ℕ) (i : ℕ) → i < length l → T (member (get_or l i 0) l)
unfolding member
member_get_or [] i h = absurd (not-suc-le-zero h)
member_get_or (x ∷ xs) zero h = or_left (eqb x x) (member x xs) (eqb_refl x)
member_get_or (x ∷ xs) (suc i) h =
    or_right (eqb (get_or xs i 0) x) (member (get_or xs i 0) xs) (member_get_or xs i (le_of_suc-le-suc h))

distinct_get_or : (l : List ℕ) → T (distinct l) → (i j : ℕ) → i < length l → j < length l → get_or l i 0 ≡ get_or l j 0
    → i ≡ j
unfolding distinct
distinct_get_or [] d i j h k e = absurd (not-suc-le-zero h)
distinct_get_or (x ∷ xs) d zero zero h k e = refl
distinct_get_or (x ∷ xs) d zero (suc j) h k e =
    not_both (member x xs) (rw e (member_get_or xs j (le_of_suc-le-suc k)))
    (and_left (not (member x xs)) (distinct xs) d)
distinct_get_or (x ∷ xs) d (suc i) zero h k e =
    not_both (member x xs) (rw (← e) (member_get_or xs i (le_of_suc-le-suc h)))
    (and_left (not (member x xs)) (distinct xs) d)
distinct_get_or (x ∷ xs) d (suc i) (suc j) h k e =
    ap suc (distinct_get_or xs (and_right (not (member x xs)) (distinct xs) d) i j (le_of_suc-le-suc h)
    (le_of_suc-le-suc k) e)

-- what stands in a list stands at a place of it
pub member_place : (u : ℕ) (l : List ℕ) → T (member u l) → (i : ℕ) × (i < length l) × (get_or l i 0 ≡ u)
unfolding member
member_place u [] m = absurd m
member_place u (x ∷ xs) m =
    or_cases (eqb u x) (member u xs) m
    (λ e. (zero, omega arith, sym (eqb→eq u x e)))
    (λ k. let (i, h, e) = member_place u xs k in (suc i, omega arith, e))

distinct_of : (l : List ℕ) → ((i j : ℕ) → i < length l → j < length l → get_or l i 0 ≡ get_or l j 0 → i ≡ j)
    → T (distinct l)
unfolding distinct
distinct_of [] d = tt
distinct_of (x ∷ xs) d =
    and_both (not (member x xs)) (distinct xs)
    (by_test (member x xs)
    (λ m.
    let (i, h, e) = member_place x xs m in
    let z : suc i ≡ zero = d (suc i) zero (omega arith) (omega arith) e in absurd (omega arith))
    (λ q. q))
    (distinct_of xs (λ i j h k e.
    let z : suc i ≡ suc j = d (suc i) (suc j) (omega arith) (omega arith) e in omega arith))

-- what stands before x
before : ℕ → List ℕ → List ℕ
before x [] = []
before x (y ∷ ys) = cond (eqb x y) [] (y ∷ before x ys)

member_before : (z x : ℕ) (l : List ℕ) → T (member z (before x l)) → T (member z l)
unfolding before member
member_before z x [] m = m
member_before z x (y ∷ ys) m = go (eqb x y) m (member_before z x ys)
  where
    go : (b : Bool) → T (member z (cond b [] (y ∷ before x ys))) → (T (member z (before x ys)) → T (member z ys))
        → T (eqb z y || member z ys)
    go true m ih = absurd m
    go false m ih =
        or_cases (eqb z y) (member z (before x ys)) m (or_left (eqb z y) (member z ys))
        (λ k. or_right (eqb z y) (member z ys) (ih k))

not_before : (x : ℕ) (l : List ℕ) → T (not (member x (before x l)))
unfolding before member
not_before x [] = tt
not_before x (y ∷ ys) =
    cond_case (λ (l : List ℕ). T (not (member x l))) (eqb x y) (λ e. tt) (λ e. rw e (not_before x ys))

distinct_before : (x : ℕ) (l : List ℕ) → T (distinct l) → T (distinct (before x l))
unfolding before distinct
distinct_before x [] d = tt
distinct_before x (y ∷ ys) d =
    cond_case (λ (l : List ℕ). T (distinct l)) (eqb x y) (λ e. tt)
    (λ e. and_both (not (member y (before x ys))) (distinct (before x ys))
    (by_test (member y (before x ys))
    (λ m. not_both (member y ys) (member_before y x ys m) (and_left (not (member y ys)) (distinct ys) d)) (λ q. q))
    (distinct_before x ys (and_right (not (member y ys)) (distinct ys) d)))

-- how often v stands in a list
occurrences : ℕ → List ℕ → ℕ
occurrences v [] = 0
occurrences v (x ∷ xs) = cond (eqb v x) 1 0 + occurrences v xs

occurrences_none : (v : ℕ) (l : List ℕ) → T (not (member v l)) → occurrences v l ≡ 0
unfolding occurrences member
occurrences_none v [] q = refl
occurrences_none v (x ∷ xs) q = go (eqb v x) q (occurrences_none v xs)
  where
    go : (b : Bool) → T (not (b || member v xs)) → (T (not (member v xs)) → occurrences v xs ≡ 0)
        → cond b 1 0 + occurrences v xs ≡ 0
    go true q ih = absurd q
    go false q ih = omega (arith, ih q)

occurrences_once : (v : ℕ) (l : List ℕ) → T (distinct l) → occurrences v l ≤ 1
unfolding occurrences distinct
occurrences_once v [] d = zero-le
occurrences_once v (x ∷ xs) d =
    go (eqb v x) refl (occurrences_once v xs (and_right (not (member x xs)) (distinct xs) d))
  where
    go : (b : Bool) → eqb v x ≡ b → occurrences v xs ≤ 1 → cond b 1 0 + occurrences v xs ≤ 1
    go true e ih =
        omega (
          arith,
          occurrences_none v xs
              (rw (eqb→eq v x (T_of _ e)) (and_left (not (member x xs)) (distinct xs) d)),
        )
    go false e ih = omega arith

length_occurrences : (l : List ℕ) (n : ℕ) → ((v : ℕ) → T (member v l) → v < n)
    → length l ≤ sum_below (λ v. occurrences v l) n
unfolding occurrences member
length_occurrences [] n h = zero-le
length_occurrences (x ∷ xs) n h =
    rw (sum_add (λ v. cond (eqb v x) 1 0) (λ v. occurrences v xs) n)
    (omega (arith, length_occurrences xs n (λ v m. h v (or_right (eqb v x) (member v xs) m)), here))
  where
    one : ◌≡◌ {A = ℕ} 1 (cond (eqb x x) 1 0)
    one = rw (of_T (eqb x x) (eqb_refl x))

    here : 1 ≤ sum_below (λ v. cond (eqb v x) 1 0) n
    here =
        le_trans (le_of_eq one)
        (sum_at (λ v. cond (eqb v x) 1 0) n x (h x (or_left (eqb x x) (member x xs) (eqb_refl x))))

-- a row of distinct numbers below n has at most n of them
distinct_few : (l : List ℕ) (n : ℕ) → T (distinct l) → ((v : ℕ) → T (member v l) → v < n) → length l ≤ n
distinct_few l n d h =
    omega (
      arith,
      length_occurrences l n h,
      sum_mono (λ v. occurrences v l) (λ v. 1) n
          (λ v k. occurrences_once v l d),
      sum_one n,
    )

-- ---- layers

module _ (g : Graph) where
  layer : ℕ → ℕ → Bool
  layer zero v = elim (g.role v) [ input ↦ true | wire ↦ false | register ↦ true ]
  layer (suc k) v = elim (g.role v) [ input ↦ true | wire ↦ every (layer k) (g.uses v) | register ↦ true ]

  layer_zero : (v : ℕ) → g.role v ≡ wire → layer zero v ≡ false
  unfolding layer
  layer_zero v e = rw (e, layer)

  layer_suc : (v k : ℕ) → g.role v ≡ wire → layer (suc k) v ≡ every (layer k) (g.uses v)
  unfolding layer
  layer_suc v k e = rw (e, layer)

  layer_input : (v k : ℕ) → g.role v ≡ input → layer k v ≡ true
  unfolding layer
  layer_input v zero e = rw (e, layer)
  layer_input v (suc k) e = rw (e, layer)

  layer_register : (v k : ℕ) → g.role v ≡ register → layer k v ≡ true
  unfolding layer
  layer_register v zero e = rw (e, layer)
  layer_register v (suc k) e = rw (e, layer)

  -- what is outside a layer is a wire
  outside : (k v : ℕ) → T (not (layer k v)) → g.role v ≡ wire
  outside k v q =
      by_role (g.role v) (λ e. absurd (rw (layer_input v k e) at q)) (λ e. e)
      (λ e. absurd (rw (layer_register v k e) at q))

module _ (g : Graph) (inside : (v u : ℕ) → v < g.size → Uses g v u → u < g.size) where
  -- ---- layers give a rank

  module _ (t : T (all_below (layer g g.size) g.size)) where
    first_layer : ℕ → ℕ
    first_layer v = first (λ k. layer g k v) g.size

    -- a wire is not in layer 0, and what it uses is in the layer before its first
    uses_below : (v : ℕ) → v < g.size → g.role v ≡ wire
        → (j : ℕ) × (first_layer v ≡ suc j) × ((u : ℕ) → Uses g v u → T (layer g j u))
    unfolding first_layer
    uses_below v h e =
        go (first_layer v) refl
        (first_passes (λ k. layer g k v) g.size (all_at (layer g g.size) g.size t v h))
      where
        go : (k : ℕ) → first_layer v ≡ k → T (layer g (first_layer v) v)
            → (j : ℕ) × (first_layer v ≡ suc j) × ((u : ℕ) → Uses g v u → T (layer g j u))
        go zero d q = absurd (rw (layer_zero g v e) at (rw d at q))
        go (suc j) d q = (j, d, λ u m. every_at (layer g j) (g.uses v) (rw (layer_suc g v j e) at (rw d at q)) u m)

    layers_ranked : Ranked g
    unfolding first_layer
    layers_ranked =
        record {
          inside = inside;
          rank = λ v. pred (first_layer v);
          small = λ v h e.
              let (j, d, below) = uses_below v h e in
              omega (
                arith,
                first_least (λ k. layer g k v) g.size g.size
                    (all_at (layer g g.size) g.size t v h),
              );
          falls = λ v u h e e' m.
              let (j, d, below) = uses_below v h e in
              let (i, d', below') = uses_below u (inside v u h m) e' in
              omega (arith, first_least (λ k. layer g k u) g.size j (below u m));
        }

  -- ---- a variable outside the last layer gives a loop

  -- a wire of the net
  abbrev Wire : ℕ → Type 0
  Wire v = (v < g.size) × (g.role v ≡ wire)

  -- each of the row is a wire and uses the next
  abbrev Chain : ℕ → List ℕ → Type 0
  Chain x [] = Wire x
  Chain x (y ∷ ys) = Wire x × Uses g x y × Chain y ys

  -- and the last uses `end`
  abbrev PathTo : ℕ → ℕ → List ℕ → Type 0
  PathTo end x [] = Wire x × Uses g x end
  PathTo end x (y ∷ ys) = Wire x × Uses g x y × PathTo end y ys

  chain : (k v : ℕ) → v < g.size → T (not (layer g k v)) → (l : List ℕ) × (length l ≡ k) × Chain v l
  chain zero v h q = ([], refl, (h, outside g zero v q))
  chain (suc k) v h q =
      let e = outside g (suc k) v q in
      let (u, m, q') = fails (layer g k) (g.uses v) (rw (layer_suc g v k e) at q) in
      let (l, len, c) = chain k u (inside v u h m) q' in
      (u ∷ l, ap suc len, ((h, e), m, c))

  chain_below : (x : ℕ) (l : List ℕ) → Chain x l → (v : ℕ) → T (member v (x ∷ l)) → v < g.size
  unfolding member
  chain_below x [] c v m = or_cases (eqb v x) false m (λ e. rw (eqb→eq v x e) c.0) (λ a. absurd a)
  chain_below x (y ∷ ys) c v m =
      or_cases (eqb v x) (member v (y ∷ ys)) m (λ e. rw (eqb→eq v x e) c.0.0) (λ a. chain_below y ys c.2 v a)

  -- the part of a chain before x leads back to x
  path_back : (x w y : ℕ) (ys : List ℕ) → Wire w → Uses g w y → Chain y ys → T (member x (y ∷ ys))
      → PathTo x w (before x (y ∷ ys))
  unfolding before member
  path_back x w y [] hw s c m =
      cond_case (λ (l : List ℕ). PathTo x w l) (eqb x y) (λ e. (hw, rw (eqb→eq x y (T_of _ e)) s))
      (λ e. or_cases (eqb x y) false m (λ t. true_false (sym (of_T _ t) ∙ e)) (λ t. absurd t))
  path_back x w y (z ∷ zs) hw s c m =
      cond_case (λ (l : List ℕ). PathTo x w l) (eqb x y) (λ e. (hw, rw (eqb→eq x y (T_of _ e)) s))
      (λ e. (
        hw,
        s,
        path_back x y z zs c.0 c.1 c.2
            (or_cases (eqb x y) (member x (z ∷ zs)) m (λ t. true_false (sym (of_T _ t) ∙ e)) (λ t. t)),
      ))

  -- ---- from a row that leads back to its first, to document 01's loop

  path_wires : (end x : ℕ) (l : List ℕ) → PathTo end x l → (i : ℕ) → i < length (x ∷ l) → Wire (get_or (x ∷ l) i 0)
  path_wires end x [] p zero h = p.0
  path_wires end x [] p (suc i) h = absurd (not-suc-le-zero (le_of_suc-le-suc h))
  path_wires end x (y ∷ ys) p zero h = p.0
  path_wires end x (y ∷ ys) p (suc i) h = path_wires end y ys p.2 i (le_of_suc-le-suc h)

  path_next : (end x : ℕ) (l : List ℕ) → PathTo end x l → (i : ℕ) → suc i < length (x ∷ l)
      → Uses g (get_or (x ∷ l) i 0) (get_or (x ∷ l) (suc i) 0)
  path_next end x [] p i h = absurd (not-suc-le-zero (le_of_suc-le-suc h))
  path_next end x (y ∷ ys) p zero h = p.1
  path_next end x (y ∷ ys) p (suc i) h = path_next end y ys p.2 i (le_of_suc-le-suc h)

  path_last : (end x : ℕ) (l : List ℕ) → PathTo end x l → Uses g (get_or (x ∷ l) (length l) 0) end
  path_last end x [] p = p.1
  path_last end x (y ∷ ys) p = path_last end y ys p.2

  loop_of : (x : ℕ) (l : List ℕ) → T (distinct (x ∷ l)) → PathTo x x l → Loop g (x ∷ l)
  loop_of x l d p =
      record {
        some = omega arith;
        wires = path_wires x x l p;
        distinct = distinct_get_or (x ∷ l) d;
        next = λ i h. rw (add-one i) (path_next x x l p i (omega arith));
        back = rw (sub-one (suc (length l))) (path_last x x l p);
      }

  abbrev Looped : Type 0
  Looped = (row : List ℕ) × Loop g row

  repeats : (x : ℕ) (l : List ℕ) → Chain x l → T (distinct (x ∷ l)) ⊎ Looped
  unfolding distinct member
  repeats x [] c = inl tt
  repeats x (y ∷ ys) c = ⊎_elim again inr (repeats y ys c.2)
    where
      again : T (distinct (y ∷ ys)) → T (distinct (x ∷ y ∷ ys)) ⊎ Looped
      again d =
          by_test (member x (y ∷ ys))
          (λ m. inr (
            x ∷ before x (y ∷ ys),
            loop_of x (before x (y ∷ ys))
                (and_both (not (member x (before x (y ∷ ys)))) (distinct (before x (y ∷ ys)))
                (not_before x (y ∷ ys)) (distinct_before x (y ∷ ys) d))
                (path_back x x y ys c.0 c.1 c.2 m),
          ))
          (λ q. inl (and_both (not (member x (y ∷ ys))) (distinct (y ∷ ys)) q d))

  -- A net has a rank or a loop.
  pub ranked_or_loop : Ranked g ⊎ Looped
  ranked_or_loop =
      by_test (all_below (layer g g.size) g.size) (λ t. inl (layers_ranked t))
      (λ q.
      let (v, h, q') = fails_below (layer g g.size) g.size q in
      let (l, len, c) = chain g.size v h q' in
      ⊎_elim (λ d. absurd (omega (arith, distinct_few (v ∷ l) g.size d (chain_below v l c)))) inr (repeats v l c))

-- ---- and not both

rank_falls : {g : Graph} (r : Ranked g) (row : List ℕ) → Loop g row → (i : ℕ) → i < length row
    → r.rank (get_or row i 0) + i ≤ r.rank (get_or row 0 0)
rank_falls r row loop zero h = omega arith
rank_falls r row loop (suc i) h =
    let (inside, is-wire) = loop.wires i (omega arith) in
    let step : r.rank (get_or row (suc i) 0) < r.rank (get_or row i 0) =
    r.falls _ _ inside is-wire (loop.wires (suc i) h).1 (rw add-one at (loop.next i (omega arith))) in
    omega (arith, rank_falls r row loop i (omega arith), step)

-- A net with a rank has no loop.
pub ranked_no_loop : {g : Graph} → Ranked g → (row : List ℕ) → Loop g row → ⊥
ranked_no_loop r row loop =
    let (inside, is-wire) = loop.wires (length row - 1) (omega (arith, loop.some)) in
    omega (
      arith,
      rank_falls r row loop (length row - 1) (omega (arith, loop.some)),
      r.falls _ _ inside is-wire (loop.wires 0 loop.some).1 loop.back,
    )

-- a loop has no more wires than the net has variables
pub loop_short : {g : Graph} {row : List ℕ} → Loop g row → length row ≤ g.size
loop_short {g} {row} loop =
    distinct_few row g.size (distinct_of row loop.distinct)
    (λ v m. let (i, h, e) = member_place v row m in rw (← e) (loop.wires i h).0)

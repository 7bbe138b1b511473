-- A loop that stands on the stack, read from its lowest variable on, is a loop with its lowest first.
-- Assumes nothing.
use mathlib.Core.Path.{◌≡◌, refl, sym, ap, ◌∙◌}
use mathlib.Core.Logic.{◌⊎◌, inl, inr, ⊎_elim}
use mathlib.Core.List.{List, ◌++◌}
use Prim.Native.Nat.{ℕ, ◌+◌, ◌-◌, ◌≤◌, ◌<◌}
use native.Mathlib.Omega.{arith}
use borrow.Author.Tests.{le-leb, lt-leb}
use borrow.Rule.Slice.PartMut.{mid_of, post_of, put_mid, same_len_mid}
use lib.ListN.{length, get_or, take, drop, length-append, length-drop, get_or-append}
use lib.Seq.{length-take-le, get_or-take, get_or-drop}
use Rattle.std.proofs.lemmas.List.{get_or-append_right}
use Rattle.std.specs.List.{ReversedBelow}
use Rattle.buffer.specs.Kept.{Filled}
use Rattle.net.specs.Loop.{Loop, LowestFirst}
use Rattle.circuit.specs.Circuit.{graph}
use Rattle.circuit.specs.declared.table.Table.{Table}
use Rattle.circuit.specs.Tables.{circuit_of}
use Rattle.circuit.proofs.Tables.{circuit_length}
use Rattle.schedule.specs.Shown.{rotation, Shown}
use Rattle.schedule.specs.Walk.{StackCloses}
use Rattle.net.proofs.Cases.{by_le}
use Rattle.schedule.proofs.Uses.{last_wire}

-- ---- the places of the row

module _ (top p m i : ℕ) where
  pub rotation_down : top + i ≤ m → rotation top p m i ≡ m - i
  unfolding rotation
  rotation_down h = rw (le-leb (top + i) m h, rotation)

  pub rotation_on : m < top + i → rotation top p m i ≡ m + (p + 1 - top) - i
  unfolding rotation
  rotation_on h = rw (lt-leb (top + i) m h, rotation)

module _ (top p m : ℕ) (top_m : top ≤ m) (m_p : m ≤ p) where
  pub rotation_in : (i : ℕ) → i < p + 1 - top → (top ≤ rotation top p m i) × (rotation top p m i ≤ p)
  rotation_in i l =
      by_le (top + i) m
      (λ h. omega (arith, rotation_down top p m i h))
      (λ h. omega (arith, rotation_on top p m i h))

  rotation_distinct : (i j : ℕ) → i < p + 1 - top → j < p + 1 - top → rotation top p m i ≡ rotation top p m j → i ≡ j
  rotation_distinct i j l l' e =
      by_le (top + i) m
      (λ h. by_le (top + j) m
      (λ h'. omega (arith, rotation_down top p m i h, rotation_down top p m j h'))
      (λ h'. omega (arith, rotation_down top p m i h, rotation_on top p m j h')))
      (λ h. by_le (top + j) m
      (λ h'. omega (arith, rotation_on top p m i h, rotation_down top p m j h'))
      (λ h'. omega (arith, rotation_on top p m i h, rotation_on top p m j h')))

  -- the next stands one place below, or at p after the top
  rotation_next : (i : ℕ) → i + 1 < p + 1 - top
      → (rotation top p m i ≡ rotation top p m (i + 1) + 1)
      ⊎ ((rotation top p m i ≡ top) × (rotation top p m (i + 1) ≡ p))
  rotation_next i l =
      by_le (top + (i + 1)) m
      (λ h. inl (omega (arith, rotation_down top p m (i + 1) h, rotation_down top p m i (omega arith))))
      (λ h. by_le (top + i) m
      (λ h'. inr (
        omega (arith, rotation_on top p m (i + 1) h, rotation_down top p m i h'),
        omega (arith, rotation_on top p m (i + 1) h),
      ))
      (λ h'. inl (omega (arith, rotation_on top p m (i + 1) h, rotation_on top p m i h'))))

  rotation_first : rotation top p m 0 ≡ m
  rotation_first = omega (arith, rotation_down top p m 0 (omega arith))

  rotation_last : (i : ℕ) → i + 1 ≡ p + 1 - top
      → (rotation top p m i ≡ m + 1) ⊎ ((rotation top p m i ≡ top) × (m ≡ p))
  rotation_last i e =
      by_le (top + i) m
      (λ h. inr (omega (arith, rotation_down top p m i h), omega arith))
      (λ h. inl (omega (arith, rotation_on top p m i h)))

-- ---- the row is a loop

module _ (t : Table) (top u : ℕ) (s exit : List ℕ) (size : ℕ) (stack : StackCloses t s top u)
    (shown : Shown t.records top u s exit size) (row : List ℕ) (row_length : length row ≡ size)
    (is : (i : ℕ) → i < size → get_or row i 0 ≡ get_or exit i 0) where
  abbrev at : ℕ → ℕ
  at i = rotation top shown.p shown.m i

  bounds : (i : ℕ) → i < length row → (top ≤ at i) × (at i ≤ shown.p)
  bounds i l =
      rotation_in top shown.p shown.m shown.top_m shown.m_p i (omega (arith, shown.size_is))

  number : (i : ℕ) → i < length row → get_or row i 0 ≡ get_or s (at i) 0
  number i l = is i (omega arith) ∙ shown.row i (omega arith)

  pub shown_loop : Loop (graph (circuit_of t)) row
  shown_loop =
      let p = shown.p in
      let m = shown.m in
      let high : p < t.records = shown.p_n in
      let sized : length row ≡ p + 1 - top = row_length ∙ shown.size_is in
      let some : 0 < length row = omega (arith, shown.top_m, shown.m_p) in
      record {
        some = some;
        wires = λ i l.
            let b = bounds i l in
            let (below, wire) = stack.wires (at i) b.0 (omega arith) in
            rw (number i l)
            (omega (arith, circuit_length t.bytes.now t.records), last_wire (circuit_of t) (get_or s (at i) 0) wire);
        distinct = λ i j l l' q.
            let b = bounds i l in
            let b' = bounds j l' in
            rotation_distinct top p m shown.top_m shown.m_p i j (omega arith) (omega arith)
            (stack.distinct (at i) (at j) b.0 (omega arith) b'.0 (omega arith)
            (sym (number i l) ∙ q ∙ number j l'));
        next = λ i l.
            let l' : i < length row = omega arith in
            let b = bounds i l' in
            let b' = bounds (i + 1) l in
            rw (number i l', number (i + 1) l)
            (⊎_elim
            (λ q. rw q (stack.chain (at (i + 1)) b'.0 (omega arith)))
            (λ q. rw (q.0, q.1, shown.at_p) stack.close)
            (rotation_next top p m shown.top_m shown.m_p i (omega arith)));
        back =
            let i : ℕ = length row - 1 in
            let l : i < length row = omega arith in
            let b = bounds i l in
            rw (number i l, number 0 some, rotation_first top p m shown.top_m shown.m_p)
            (⊎_elim
            (λ q. rw q (stack.chain m shown.top_m (omega arith)))
            (λ q. rw (q.0, q.1, shown.at_p) stack.close)
            (rotation_last top p m shown.top_m shown.m_p i (omega arith)));
      }

  pub shown_lowest : LowestFirst row
  shown_lowest i l =
      let b = bounds i l in
      rw (number 0 (omega arith), rotation_first top shown.p shown.m shown.top_m shown.m_p, number i l)
      (shown.least (at i) b.0 b.1)

-- ---- what finding, copying and turning gives

-- a list, its first a numbers and the k behind them each put back the other way round
module _ (a k : ℕ) (xs ys zs : List ℕ) (lent : a + k ≤ length xs) (ys_length : length ys ≡ length (take a xs))
    (first : ReversedBelow (take a xs) ys (length (take a xs)))
    (zs_length : length zs ≡ length (mid_of a k (ys ++ drop a xs)))
    (second : ReversedBelow (mid_of a k (ys ++ drop a xs)) zs (length (mid_of a k (ys ++ drop a xs)))) where
  abbrev once : List ℕ
  once = ys ++ drop a xs

  abbrev twice : List ℕ
  twice = put_mid a k once zs

  taken : length (take a xs) ≡ a
  taken = length-take-le a xs (omega arith)

  once_length : length once ≡ length xs
  once_length = omega (arith, length-append ys (drop a xs), length-drop a xs, ys_length, taken)

  part_length : length (mid_of a k once) ≡ k
  part_length = length-take-le k (drop a once) (omega (arith, length-drop a once, once_length))

  taken_once : length (take a once) ≡ a
  taken_once = length-take-le a once (omega (arith, once_length))

  -- behind the first part stands what stood there
  once_behind : (i : ℕ) → get_or (drop a once) i 0 ≡ get_or xs (a + i) 0
  once_behind i =
      get_or-drop a once i 0
      ∙ get_or-append_right ys (drop a xs) a (a + i) 0 (ys_length ∙ taken) (omega arith)
      ∙ get_or-drop a xs (a + i - a) 0
      ∙ ap (λ (x : ℕ). get_or xs x 0) (omega arith)

  turned_first : (i : ℕ) → i < a → get_or twice i 0 ≡ get_or xs (a - 1 - i) 0
  turned_first i l =
      get_or-append (take a once) (zs ++ post_of a k once) 0 i (omega (arith, taken_once))
      ∙ get_or-take a once i 0 l
      ∙ get_or-append ys (drop a xs) 0 i (omega (arith, ys_length, taken))
      ∙ first i 0 (omega (arith, taken))
      ∙ get_or-take a xs (length (take a xs) - 1 - i) 0 (omega (arith, taken))
      ∙ ap (λ (x : ℕ). get_or xs (x - 1 - i) 0) taken

  turned_second : (i : ℕ) → i < k → get_or twice (a + i) 0 ≡ get_or xs (a + (k - 1 - i)) 0
  turned_second i l =
      get_or-append_right (take a once) (zs ++ post_of a k once) a (a + i) 0 taken_once (omega arith)
      ∙ get_or-append zs (post_of a k once) 0 (a + i - a) (omega (arith, zs_length, part_length))
      ∙ second (a + i - a) 0 (omega (arith, part_length))
      ∙ get_or-take k (drop a once) (length (mid_of a k once) - 1 - (a + i - a)) 0 (omega (arith, part_length))
      ∙ once_behind (length (mid_of a k once) - 1 - (a + i - a))
      ∙ ap (λ (x : ℕ). get_or xs x 0) (omega (arith, part_length))

  turned_beyond : (i : ℕ) → a + k ≤ i → get_or twice i 0 ≡ get_or xs i 0
  turned_beyond i l =
      get_or-append_right (take a once) (zs ++ post_of a k once) a i 0 taken_once (omega arith)
      ∙ get_or-append_right zs (post_of a k once) k (i - a) 0 (zs_length ∙ part_length) (omega arith)
      ∙ get_or-drop k (drop a once) (i - a - k) 0
      ∙ once_behind (k + (i - a - k))
      ∙ ap (λ (x : ℕ). get_or xs x 0) (omega arith)

  turned_length : length twice ≡ length xs
  turned_length = same_len_mid a k once zs zs_length ∙ once_length

-- the loop was copied to the front, and what stands up to its lowest and what stands behind that were each turned round
pub shown : (n top u p m i : ℕ) (s copied front back : List ℕ) → (top ≤ p) × (p < n) × (get_or s p 0 ≡ u)
    → (top ≤ m) × (m ≤ p) → ((j : ℕ) → top ≤ j → j ≤ p → get_or s m 0 ≤ get_or s j 0) → n + n ≤ length s
    → i ≡ p + 1 - top → Filled 0 i (λ j. get_or s (top + j) 0) s copied
    → length front ≡ length (take (m + 1 - top) copied)
    → ReversedBelow (take (m + 1 - top) copied) front (length (take (m + 1 - top) copied))
    → length back ≡ length (mid_of (m + 1 - top) (p + 1 - top - (m + 1 - top)) (front ++ drop (m + 1 - top) copied))
    → ReversedBelow (mid_of (m + 1 - top) (p + 1 - top - (m + 1 - top)) (front ++ drop (m + 1 - top) copied)) back
    (length (mid_of (m + 1 - top) (p + 1 - top - (m + 1 - top)) (front ++ drop (m + 1 - top) copied)))
    → Shown n top u s
    (put_mid (m + 1 - top) (p + 1 - top - (m + 1 - top)) (front ++ drop (m + 1 - top) copied) back) (p + 1 - top)
shown n top u p m i s copied front back found within least lent all filled front_length first back_length second =
    let a : ℕ = m + 1 - top in
    let k : ℕ = p + 1 - top - a in
    let room : a + k ≤ length copied = omega (arith, filled.long) in
    let here : (j : ℕ) → j < p + 1 - top → get_or copied j 0 ≡ get_or s (top + j) 0 = λ j l.
    ap (λ (x : ℕ). get_or copied x 0) (omega arith) ∙ filled.here j (omega arith) in
    record {
      p = p;
      m = m;
      top_m = within.0;
      m_p = within.1;
      p_n = found.1;
      at_p = found.2;
      least = least;
      size_is = refl;
      row = λ j l.
          by_le (top + j) m
          (λ h.
          turned_first a k copied front back room front_length first back_length second j (omega arith)
          ∙ here (a - 1 - j) (omega arith)
          ∙ ap (λ (x : ℕ). get_or s x 0) (omega (arith, rotation_down top p m j h)))
          (λ h.
          ap (λ (x : ℕ). get_or (put_mid a k (front ++ drop a copied) back) x 0) (omega arith)
          ∙ turned_second a k copied front back room front_length first back_length second (j - a) (omega arith)
          ∙ here (a + (k - 1 - (j - a))) (omega arith)
          ∙ ap (λ (x : ℕ). get_or s x 0) (omega (arith, rotation_on top p m j h)));
      kept =
          record {
            long =
                turned_length a k copied front back room front_length first back_length second
                ∙ filled.long;
            beyond = λ j l.
                turned_beyond a k copied front back room front_length first back_length second j (omega arith)
                ∙ filled.beyond j (omega arith);
          };
    }

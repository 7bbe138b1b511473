-- The queue of a search: as it begins, with one variable more, with none, and with the one at its head done.
-- Assumes nothing.
use mathlib.Core.Path.{◌≡◌, refl, sym, ap, ◌∙◌}
use mathlib.Core.Logic.{◌⊎◌, inl, inr, ⊎_elim}
use mathlib.Core.Bool.{not}
use Prim.Native.Nat.{ℕ, ◌+◌, ◌≤◌, ◌<◌, zero-le}
use native.Mathlib.Nat.{not-suc-le-zero, le_refl}
use native.Mathlib.Omega.{arith}
use lib.Dec.{T}
use Rattle.net.proofs.Cases.{by_le, by_same}
use Rattle.circuit.specs.Circuit.{Circuit}
use Rattle.fact.specs.declared.Fact.{Fact}
use Rattle.fact.specs.declared.Fact.TheVariants.{Marked}
use Rattle.schedule.specs.Walk.{sign, count_visited}
use Rattle.schedule.proofs.Sums.{sum_change, sum_most, sign_positive, visited_most, visited_less}
use Rattle.path.specs.Row.{secret, Under}
use Rattle.path.specs.Search.{Queue}

-- the count of what is found, with one more
found_more : (n x : ℕ) (f f' : ℕ → ℕ) → x < n → f x ≡ 0 → ((u : ℕ) → (u ≡ x → ⊥) → f' u ≡ f u) → 0 < f' x
    → count_visited f' n ≡ count_visited f n + 1
found_more n x f f' h none old new =
    let change : count_visited f' n + sign (f x) ≡ count_visited f n + sign (f' x) =
    sum_change (λ u. sign (f u)) (λ u. sign (f' u)) n x h (λ u ne. ap sign (old u ne)) in
    omega (arith, change, ap sign none, sign_positive (f' x) new)

-- ---- one variable more

-- x stands at the end of the queue, found from the one at `head`
pub record Pushed (q p f q' p' f' : ℕ → ℕ) (x head tail : ℕ) : Type 0 where
  pub queued : (i : ℕ) → i < tail → q' i ≡ q i
  pub new_queued : q' tail ≡ x
  pub parent : (i : ℕ) → i < tail → p' i ≡ p i
  pub new_parent : p' tail ≡ head
  pub found : (u : ℕ) → (u ≡ x → ⊥) → f' u ≡ f u
  pub new_found : f' x ≡ tail + 1

module _ {c : Circuit} {facts : ℕ → Fact} {n : ℕ} {q p f : ℕ → ℕ} {head tail bound : ℕ}
    (queue : Queue c facts n q p f head tail bound) where
  -- no more are queued than there are variables
  pub queue_few : tail ≤ n
  queue_few = omega (arith, queue.count, visited_most f n)

  -- what was not found leaves room
  pub queue_room : (x : ℕ) → x < n → f x ≡ 0 → tail < n
  queue_room x h none = omega (arith, queue.count, visited_less f n x h none)

  -- a variable that is not found stands nowhere in the queue
  not_queued : (x i : ℕ) → f x ≡ 0 → i < tail → q i ≡ x → ⊥
  not_queued x i none h e = omega (arith, (queue.variables i h).2, ap f e)

  module _ {q' p' f' : ℕ → ℕ} (x : ℕ) (low : bound ≤ x) (x_below : x < n) (is : facts x ≡ Marked)
      (under : Under c facts (q head) x) (none : f x ≡ 0) (busy : head < tail)
      (push : Pushed q p f q' p' f' x head tail) where
    pushed_variables : (i : ℕ) → i < tail + 1 → (q' i < n) × (facts (q' i) ≡ Marked) × (f' (q' i) ≡ i + 1)
    pushed_variables i h =
        by_same i tail
        (λ e. rw (e, push.new_queued) (x_below, is, push.new_found))
        (λ ne.
        let l : i < tail = omega arith in
        rw (push.queued i l, push.found (q i) (not_queued x i none l)) (queue.variables i l))

    pushed_places : (u : ℕ) → u < n → 0 < f' u → (i : ℕ) × (i < tail + 1) × (q' i ≡ u)
    pushed_places u h some =
        by_same u x
        (λ e. (tail, omega arith, push.new_queued ∙ sym e))
        (λ ne.
        let (i, l, at) = queue.places u h (rw (push.found u ne) at some) in
        (i, omega arith, push.queued i l ∙ at))

    pushed_linked : (i : ℕ) → 0 < i → i < tail + 1 → (p' i < i) × Under c facts (q' (p' i)) (q' i)
    pushed_linked i some h =
        by_same i tail
        (λ e. rw (e, push.new_parent, push.new_queued, push.queued head busy) (busy, under))
        (λ ne.
        let l : i < tail = omega arith in
        let (earlier, used) = queue.linked i some l in
        rw (push.parent i l, push.queued i l, push.queued (p i) (omega arith)) (earlier, used))

    pushed_parents : (i : ℕ) → 0 < i → i < tail + 1 → (p' i < head) ⊎ ((p' i ≡ head) × (q' i ≤ x))
    pushed_parents i some h =
        by_same i tail
        (λ e. rw (e, push.new_parent, push.new_queued) (inr (refl, le_refl _)))
        (λ ne.
        let l : i < tail = omega arith in
        rw (push.parent i l, push.queued i l)
        (⊎_elim inl (λ same. inr (same.0, omega (arith, same.1))) (queue.parents i some l)))

    pushed_ascends : (i : ℕ) → 0 < i → i + 1 < tail + 1
        → (p' i < p' (i + 1)) ⊎ ((p' i ≡ p' (i + 1)) × (q' i < q' (i + 1)))
    pushed_ascends i some h =
        by_same (i + 1) tail
        (λ e.
        let l : i < tail = omega arith in
        rw (e, push.new_parent, push.new_queued, push.parent i l, push.queued i l)
        (⊎_elim inl
        (λ same. inr (
          same.0,
          by_same (q i) x (λ z. absurd (not_queued x i none l z)) (λ ne. omega (arith, same.1)),
        ))
        (queue.parents i some l)))
        (λ ne.
        let l : i + 1 < tail = omega arith in
        rw (push.parent i (omega arith), push.queued i (omega arith), push.parent (i + 1) l, push.queued (i + 1) l)
        (queue.ascends i some l))

    pub queue_pushed : Queue c facts n q' p' f' head (tail + 1) x
    queue_pushed =
        record {
          some = omega arith;
          count =
              found_more n x f f' x_below none push.found (omega (arith, push.new_found))
              ∙ ap (λ (k : ℕ). k + 1) queue.count;
          variables = pushed_variables;
          places = pushed_places;
          linked = pushed_linked;
          parents = pushed_parents;
          ascends = pushed_ascends;
          passed = λ h l. rw (push.queued h (omega arith)) (queue.passed h l);
          done = λ h l u used marked.
              let (i, k, at, from) = queue.done h l u (rw (push.queued h (omega arith)) at used) marked in
              (i, omega arith, push.queued i k ∙ at, rw (push.parent i k) from);
        }

  -- ---- none

  -- a use that is found already, or not marked, raises the bound
  pub queue_raised : (x : ℕ) → bound ≤ x → Queue c facts n q p f head tail x
  queue_raised x low =
      record {
        some = queue.some;
        count = queue.count;
        variables = queue.variables;
        places = queue.places;
        linked = queue.linked;
        parents = λ i some h.
            ⊎_elim inl (λ same. inr (same.0, omega (arith, same.1))) (queue.parents i some h);
        ascends = queue.ascends;
        passed = queue.passed;
        done = queue.done;
      }

  -- ---- the one at the head done

  pub queue_done : T (not (secret c (q head)))
      → ((u : ℕ) → Under c facts (q head) u → facts u ≡ Marked → (u < n) × (0 < f u))
      → Queue c facts n q p f (head + 1) tail 0
  queue_done open-head all =
      record {
        some = queue.some;
        count = queue.count;
        variables = queue.variables;
        places = queue.places;
        linked = queue.linked;
        parents = λ i some h.
            inl (⊎_elim (λ (less : p i < head). omega arith) (λ same. omega (arith, same.0))
            (queue.parents i some h));
        ascends = queue.ascends;
        passed = λ h l. by_same h head (λ e. rw e open-head) (λ ne. queue.passed h (omega arith));
        done = λ h l u used marked.
            by_same h head
            (λ e. rw e (last u (rw e at used) marked))
            (λ ne. queue.done h (omega arith) u used marked);
      }
    where
      last : (u : ℕ) → Under c facts (q head) u → facts u ≡ Marked
          → (i : ℕ) × (i < tail) × (q i ≡ u) × ((i ≡ 0) ⊎ (p i ≤ head))
      last u used marked =
          let (u-below, some) = all u used marked in
          let (i, l, at) = queue.places u u-below some in (
            i,
            l,
            at,
            by_le i 0
                (λ z. inl (omega arith))
                (λ positive. inr (⊎_elim (λ (less : p i < head). omega arith) (λ same. omega (arith, same.0))
                (queue.parents i positive l))),
          )

-- ---- the queue as it begins

pub queue_begun : {c : Circuit} {facts : ℕ → Fact} {n v : ℕ} {q p f f₀ : ℕ → ℕ} → v < n → facts v ≡ Marked → q 0 ≡ v
    → ((u : ℕ) → u < n → f₀ u ≡ 0) → ((u : ℕ) → (u ≡ v → ⊥) → f u ≡ f₀ u) → f v ≡ 1
    → Queue c facts n q p f 0 1 0
queue_begun {facts = facts} {n} {v} {q} {f = f} {f₀} h is at zeros old new =
    record {
      some = omega arith;
      count =
          found_more n v f₀ f h (zeros v h) old (omega (arith, new))
          ∙ ap (λ (k : ℕ). k + 1) none;
      variables = λ i l.
          let z : i ≡ 0 = omega arith in rw (z, at) (h, is, new);
      places = λ u l some. by_same u v
          (λ e. (0, omega arith, at ∙ sym e))
          (λ ne. absurd (omega (arith, old u ne, zeros u l)));
      linked = λ i some l. absurd (omega arith);
      parents = λ i some l. absurd (omega arith);
      ascends = λ i some l. absurd (omega arith);
      passed = λ i l. absurd (not-suc-le-zero l);
      done = λ i l. absurd (not-suc-le-zero l);
    }
  where
    none : count_visited f₀ n ≡ 0
    none = omega (arith, sum_most (λ u. sign (f₀ u)) 0 n (λ u l. rw (zeros u l) zero-le))

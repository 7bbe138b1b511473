-- Tests that pass or fail: from a Bool to what it says, and back.
-- Assumes nothing.
use mathlib.Core.Path.{◌≡◌, refl}
use mathlib.Core.Bool.{Bool, true, false, not, cond, ◌&&◌, ◌||◌}
use mathlib.Core.List.{List, [], ◌∷◌}
use Prim.Native.Nat.{ℕ, zero, suc, ◌<◌}
use native.Mathlib.Nat.{not-suc-le-zero, le_refl}
use native.Mathlib.Decide.{dec_le}
use native.Mathlib.Omega.{arith}
use lib.Dec.{T, eqb, eqb→eq, eqb_refl}
use Rattle.net.specs.Tests.{all_below, any_below, every, member}

pub T_of : (b : Bool) → b ≡ true → T b
T_of true e = tt
T_of false e = let z : ◌≡◌ {A = ℕ} 0 1 = cc in absurd (omega arith)

pub of_T : (b : Bool) → T b → b ≡ true
of_T true t = refl
of_T false t = absurd t

pub true_false {ℓ} : {X : Type ℓ} → true ≡ false → X
true_false e = let z : ◌≡◌ {A = ℕ} 0 1 = cc in absurd (omega arith)

pub by_test : {P : Type 0} (b : Bool) → (T b → P) → (T (not b) → P) → P
by_test true f g = f tt
by_test false f g = g tt

pub not_both : {P : Type 0} (b : Bool) → T b → T (not b) → P
not_both true t u = absurd u
not_both false t u = absurd t

pub cond_case : {X : Type 0} (P : X → Type 0) (b : Bool) {x y : X} → (b ≡ true → P x) → (b ≡ false → P y)
    → P (cond b x y)
cond_case P true h k = h refl
cond_case P false h k = k refl

pub and_left : (a b : Bool) → T (a && b) → T a
and_left true b t = tt
and_left false b t = t

pub and_right : (a b : Bool) → T (a && b) → T b
and_right true b t = t
and_right false b t = absurd t

pub and_both : (a b : Bool) → T a → T b → T (a && b)
and_both true b t u = u
and_both false b t u = t

pub or_cases : {P : Type 0} (a b : Bool) → T (a || b) → (T a → P) → (T b → P) → P
or_cases true b t f g = f tt
or_cases false b t f g = g t

pub or_left : (a b : Bool) → T a → T (a || b)
or_left true b t = tt
or_left false b t = absurd t

pub or_right : (a b : Bool) → T b → T (a || b)
or_right true b t = tt
or_right false b t = t

-- ---- numbers below a bound

pub last_or : {P : Type 0} {v n : ℕ} → v < suc n → (v ≡ n → P) → (v < n → P) → P
last_or {P} {v} {n} h a b = elim (dec_le (suc v) n) [ yes k ↦ b k | no k ↦ a (omega arith) ]

pub all_at : (p : ℕ → Bool) (n : ℕ) → T (all_below p n) → (v : ℕ) → v < n → T (p v)
unfolding all_below
all_at p zero t v h = absurd (not-suc-le-zero h)
all_at p (suc n) t v h =
    last_or h (λ e. rw e (and_left (p n) (all_below p n) t)) (λ k. all_at p n (and_right (p n) (all_below p n) t) v k)

pub all_of : (p : ℕ → Bool) (n : ℕ) → ((v : ℕ) → v < n → T (p v)) → T (all_below p n)
unfolding all_below
all_of p zero h = tt
all_of p (suc n) h = and_both (p n) (all_below p n) (h n (le_refl _)) (all_of p n (λ v k. h v (omega arith)))

-- a number at which the test fails
pub fails_below : (p : ℕ → Bool) (n : ℕ) → T (not (all_below p n)) → (v : ℕ) × (v < n) × T (not (p v))
unfolding all_below
fails_below p zero t = absurd t
fails_below p (suc n) t = go (p n) refl t (fails_below p n)
  where
    go : (b : Bool) → p n ≡ b → T (not (b && all_below p n))
        → (T (not (all_below p n)) → (v : ℕ) × (v < n) × T (not (p v)))
        → (v : ℕ) × (v < suc n) × T (not (p v))
    go true e t ih = let (v, h, q) = ih t in (v, omega arith, q)
    go false e t ih = (n, le_refl _, rw e tt)

-- a number at which the test passes
pub passes_below : (p : ℕ → Bool) (n : ℕ) → T (any_below p n) → (v : ℕ) × (v < n) × T (p v)
unfolding any_below
passes_below p zero t = absurd t
passes_below p (suc n) t =
    or_cases (p n) (any_below p n) t (λ q. (n, le_refl _, q))
    (λ k. let (v, h, q) = passes_below p n k in (v, omega arith, q))

pub any_of : (p : ℕ → Bool) (n v : ℕ) → v < n → T (p v) → T (any_below p n)
unfolding any_below
any_of p zero v h t = absurd (not-suc-le-zero h)
any_of p (suc n) v h t =
    last_or h (λ e. or_left (p n) (any_below p n) (rw e at t)) (λ k. or_right (p n) (any_below p n) (any_of p n v k t))

-- ---- numbers of a list

pub every_at : (p : ℕ → Bool) (l : List ℕ) → T (every p l) → (u : ℕ) → T (member u l) → T (p u)
unfolding every member
every_at p [] t u m = absurd m
every_at p (x ∷ xs) t u m =
    or_cases (eqb u x) (member u xs) m
    (λ e. rw (eqb→eq u x e) (and_left (p x) (every p xs) t))
    (λ k. every_at p xs (and_right (p x) (every p xs) t) u k)

-- a number of the list at which the test fails
pub fails : (p : ℕ → Bool) (l : List ℕ) → T (not (every p l)) → (u : ℕ) × T (member u l) × T (not (p u))
unfolding every member
fails p [] t = absurd t
fails p (x ∷ xs) t = go (p x) refl t (fails p xs)
  where
    go : (b : Bool) → p x ≡ b → T (not (b && every p xs))
        → (T (not (every p xs)) → (u : ℕ) × T (member u xs) × T (not (p u)))
        → (u : ℕ) × T (member u (x ∷ xs)) × T (not (p u))
    go true e t ih = let (u, m, q) = ih t in (u, or_right (eqb u x) (member u xs) m, q)
    go false e t ih = (x, or_left (eqb x x) (member x xs) (eqb_refl x), rw e tt)

pub member_1 : (a : ℕ) (l : List ℕ) → T (member a (a ∷ l))
unfolding member
member_1 a l = or_left (eqb a a) (member a l) (eqb_refl a)

pub member_2 : (a b : ℕ) (l : List ℕ) → T (member b (a ∷ b ∷ l))
unfolding member
member_2 a b l = or_right (eqb b a) (member b (b ∷ l)) (member_1 b l)

pub member_3 : (a b c : ℕ) (l : List ℕ) → T (member c (a ∷ b ∷ c ∷ l))
unfolding member
member_3 a b c l = or_right (eqb c a) (member c (b ∷ c ∷ l)) (member_2 b c l)

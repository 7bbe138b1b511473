-- The order of facts is a partial order, join is the lowest fact at or above both, narrow is monotone and the same
-- done twice as once, and every rule is monotone.
-- Assumes nothing.
use mathlib.Core.Path.{◌≡◌, refl, sym, ap, ◌∙◌, subst}
use mathlib.Core.Bool.{Bool, true, false, cond}
use Prim.Native.Nat.{ℕ, ◌≤◌, ◌<◌, ◌^◌}
use native.Mathlib.Nat.{mod-mod}
use borrow.Author.Tests.{eqb-true, eqb-false}
use lib.Dec.{T, eqb, eqb_refl, lit<, lit≤}
use Rattle.net.proofs.Bools.{cond_case, of_T, true_false}
use Rattle.circuit.specs.declared.operator.Operator as operator
use Rattle.fact.specs.declared.Fact.{Fact}
use Rattle.fact.specs.declared.Fact.TheVariants.{Always, Open, Marked}
use Rattle.fact.specs.Fact.{◌⊑◌, itself, always_open, always_marked, open_marked, same, join, narrow}
use Rattle.fact.specs.Rule.{known_zero, zero_decides, plain_rule, operator_rule}
use Rattle.fact.specs.Rule.{always_or_marked, choose, multiplexer_rule, register_rule, enable, enabled_rule}
use Rattle.fact.proofs.Zeros.{decides_up, decided_result}

-- ---- the order

pub ⊑_of_eq : {x y : Fact} → x ≡ y → x ⊑ y
⊑_of_eq {x} e = subst (λ z. x ⊑ z) e itself

pub ⊑_trans : {x y z : Fact} → x ⊑ y → y ⊑ z → x ⊑ z
⊑_trans itself k = k
⊑_trans always_open itself = always_open
⊑_trans always_open open_marked = always_marked
⊑_trans always_marked itself = always_marked
⊑_trans open_marked itself = open_marked

pub ⊑_antisym : {x y : Fact} → x ⊑ y → y ⊑ x → x ≡ y
⊑_antisym itself k = refl
⊑_antisym always_open k = opposite k
  where
    opposite : {n : ℕ} → Open ⊑ Always n → Always n ≡ Open
    opposite k = elim k [ ]
⊑_antisym always_marked k = opposite k
  where
    opposite : {n : ℕ} → Marked ⊑ Always n → Always n ≡ Marked
    opposite k = elim k [ ]
⊑_antisym open_marked k = opposite k
  where
    opposite : Marked ⊑ Open → Open ≡ Marked
    opposite k = elim k [ ]

-- two different numbers are not ordered
pub same_number : {m n : ℕ} → Always m ⊑ Always n → m ≡ n
same_number itself = refl

-- ---- the test of equality, and heights

pub same_eq : (x y : Fact) → same x y ≡ true → x ≡ y
unfolding same
same_eq (Always m) (Always n) e = ap Always (eqb-true m n e)
same_eq (Always m) Open e = true_false (sym e)
same_eq (Always m) Marked e = true_false (sym e)
same_eq Open (Always n) e = true_false (sym e)
same_eq Open Open e = refl
same_eq Open Marked e = true_false (sym e)
same_eq Marked (Always n) e = true_false (sym e)
same_eq Marked Open e = true_false (sym e)
same_eq Marked Marked e = refl

pub same_refl : (x : Fact) → same x x ≡ true
unfolding same
same_refl (Always n) = of_T _ (eqb_refl n)
same_refl Open = refl
same_refl Marked = refl

-- how far a fact is above always
unfoldable pub height : Fact → ℕ
height (Always n) = 0
height Open = 1
height Marked = 2

pub height_rises : {x y : Fact} → x ⊑ y → same y x ≡ false → height x < height y
unfolding same height
height_rises (itself {x}) e = true_false (sym (same_refl x) ∙ e)
height_rises always_open e = lit< tt
height_rises always_marked e = lit< tt
height_rises open_marked e = lit< tt

pub height_most : (x : Fact) → height x ≤ 2
unfolding height
height_most (Always n) = lit≤ tt
height_most Open = lit≤ tt
height_most Marked = lit≤ tt

-- ---- join is the lowest fact at or above both

pub join_left : (x y : Fact) → x ⊑ join x y
join_left (Always m) (Always n) = cond_case (λ z. Always m ⊑ z) (eqb m n) (λ e. itself) (λ e. always_open)
join_left (Always m) Open = always_open
join_left (Always m) Marked = always_marked
join_left Open (Always n) = itself
join_left Open Open = itself
join_left Open Marked = open_marked
join_left Marked y = itself

pub join_right : (x y : Fact) → y ⊑ join x y
join_right (Always m) (Always n) =
    cond_case (λ z. Always n ⊑ z) (eqb m n) (λ e. ⊑_of_eq (ap Always (sym (eqb-true m n e)))) (λ e. always_open)
join_right (Always m) Open = itself
join_right (Always m) Marked = itself
join_right Open (Always n) = always_open
join_right Open Open = itself
join_right Open Marked = itself
join_right Marked (Always n) = always_marked
join_right Marked Open = open_marked
join_right Marked Marked = itself

open_below : {m n : ℕ} {z : Fact} → eqb m n ≡ false → Always m ⊑ z → Always n ⊑ z → Open ⊑ z
open_below {m} {n} e itself k = absurd (eqb-false m n e (sym (same_number k)))
open_below e always_open k = itself
open_below e always_marked k = open_marked

pub join_least : (x y : Fact) {z : Fact} → x ⊑ z → y ⊑ z → join x y ⊑ z
join_least (Always m) (Always n) {z} h k = cond_case (λ w. w ⊑ z) (eqb m n) (λ e. h) (λ e. open_below e h k)
join_least (Always m) Open h k = k
join_least (Always m) Marked h k = k
join_least Open (Always n) h k = h
join_least Open Open h k = h
join_least Open Marked h k = k
join_least Marked y h k = h

-- ---- narrow

pub narrow_mono : (w : ℕ) {x y : Fact} → x ⊑ y → narrow w x ⊑ narrow w y
narrow_mono w itself = itself
narrow_mono w always_open = always_open
narrow_mono w always_marked = always_marked
narrow_mono w open_marked = open_marked

pub narrow_narrow : (w : ℕ) (x : Fact) → narrow w (narrow w x) ≡ narrow w x
narrow_narrow w (Always n) = ap Always (mod-mod n (2 ^ w))
narrow_narrow w Open = refl
narrow_narrow w Marked = refl

-- ---- the rules are monotone

pub join_mono : {x x' y y' : Fact} → x ⊑ x' → y ⊑ y' → join x y ⊑ join x' y'
join_mono {x} {x'} {y} {y'} h k = join_least x y (⊑_trans h (join_left x' y')) (⊑_trans k (join_right x' y'))

plain_mono : (op : operator.Operator) (w : ℕ) {x x' y y' : Fact} → x ⊑ x' → y ⊑ y'
    → plain_rule op w x y ⊑ plain_rule op w x' y'
plain_mono op w {x} {x'} {y} {y'} h k = ⊑_trans (left y h) (right x' k)
  where
    left : (b : Fact) {a a' : Fact} → a ⊑ a' → plain_rule op w a b ⊑ plain_rule op w a' b
    left b itself = itself
    left (Always n) always_open = always_open
    left Open always_open = itself
    left Marked always_open = itself
    left (Always n) always_marked = always_marked
    left Open always_marked = open_marked
    left Marked always_marked = itself
    left (Always n) open_marked = open_marked
    left Open open_marked = open_marked
    left Marked open_marked = itself

    right : (a : Fact) {b b' : Fact} → b ⊑ b' → plain_rule op w a b ⊑ plain_rule op w a b'
    right a itself = itself
    right (Always n) always_open = always_open
    right Open always_open = itself
    right Marked always_open = itself
    right (Always n) always_marked = always_marked
    right Open always_marked = open_marked
    right Marked always_marked = itself
    right (Always n) open_marked = open_marked
    right Open open_marked = open_marked
    right Marked open_marked = itself

-- below always 0 there is nothing but always 0
zero_down : {x y : Fact} → x ⊑ y → T (known_zero y) → T (known_zero x)
zero_down itself t = t
zero_down always_open t = absurd t
zero_down always_marked t = absurd t
zero_down open_marked t = absurd t

-- where a known zero decides, the plain rule gives always 0 or a fact above it
decided_below : (op : operator.Operator) (w : ℕ) (x y : Fact) → T (zero_decides op (known_zero x) (known_zero y))
    → Always 0 ⊑ plain_rule op w x y
decided_below op w (Always a) (Always b) t = ⊑_of_eq (ap Always (sym (decided_result op w a b t)))
decided_below op w (Always a) Open t = always_open
decided_below op w (Always a) Marked t = always_marked
decided_below op w Open (Always b) t = always_open
decided_below op w Open Open t = always_open
decided_below op w Open Marked t = always_marked
decided_below op w Marked y t = always_marked

-- a choice is monotone where z, chosen above, is chosen below too, and lies below what it stands in the place of
cond_falls : (t t' : Bool) {z x y : Fact} → (T t' → T t) → (T t → z ⊑ x) → x ⊑ y → cond t z x ⊑ cond t' z y
cond_falls true true falls below h = itself
cond_falls true false falls below h = ⊑_trans (below tt) h
cond_falls false true falls below h = absurd (falls tt)
cond_falls false false falls below h = h

pub operator_mono : (op : operator.Operator) (w : ℕ) {x x' y y' : Fact} → x ⊑ x' → y ⊑ y'
    → operator_rule op w x y ⊑ operator_rule op w x' y'
operator_mono op w {x} {x'} {y} {y'} h k =
    cond_falls (zero_decides op (known_zero x) (known_zero y)) (zero_decides op (known_zero x') (known_zero y'))
    (decides_up op (known_zero x') (known_zero y') (known_zero x) (known_zero y) (zero_down h) (zero_down k))
    (decided_below op w x y) (plain_mono op w h k)

pub always_or_marked_above : (x : Fact) → x ⊑ always_or_marked x
always_or_marked_above (Always n) = itself
always_or_marked_above Open = open_marked
always_or_marked_above Marked = itself

always_or_marked_mono : {x y : Fact} → x ⊑ y → always_or_marked x ⊑ always_or_marked y
always_or_marked_mono itself = itself
always_or_marked_mono always_open = always_marked
always_or_marked_mono always_marked = always_marked
always_or_marked_mono open_marked = itself

cond_mono : (t : Bool) {x x' y y' : Fact} → x ⊑ x' → y ⊑ y' → cond t x y ⊑ cond t x' y'
cond_mono true h k = h
cond_mono false h k = k

choose_arms : (a : Fact) {b b' c c' : Fact} → b ⊑ b' → c ⊑ c' → choose a b c ⊑ choose a b' c'
choose_arms (Always n) hb hc = cond_mono (eqb n 0) hc hb
choose_arms Open hb hc = join_mono hb hc
choose_arms Marked hb hc = always_or_marked_mono (join_mono hb hc)

arm_join : (t : Bool) (b c : Fact) → cond t c b ⊑ join b c
arm_join true b c = join_right b c
arm_join false b c = join_left b c

choose_control : (b c : Fact) {a a' : Fact} → a ⊑ a' → choose a b c ⊑ choose a' b c
choose_control b c itself = itself
choose_control b c (always_open {n}) = arm_join (eqb n 0) b c
choose_control b c (always_marked {n}) = ⊑_trans (arm_join (eqb n 0) b c) (always_or_marked_above (join b c))
choose_control b c open_marked = always_or_marked_above (join b c)

choose_mono : {a a' b b' c c' : Fact} → a ⊑ a' → b ⊑ b' → c ⊑ c' → choose a b c ⊑ choose a' b' c'
choose_mono {a} {b' = y} {c' = z} h hb hc = ⊑_trans (choose_arms a hb hc) (choose_control y z h)

pub multiplexer_mono : (w : ℕ) {a a' b b' c c' : Fact} → a ⊑ a' → b ⊑ b' → c ⊑ c'
    → multiplexer_rule w a b c ⊑ multiplexer_rule w a' b' c'
multiplexer_mono w ha hb hc = choose_mono ha (narrow_mono w hb) (narrow_mono w hc)

pub register_mono : (w n : ℕ) {a a' : Fact} → a ⊑ a' → register_rule w n a ⊑ register_rule w n a'
register_mono w n h = join_mono (narrow_mono w h) itself

-- ---- a register with an enable

pub register_above : (w n : ℕ) (a : Fact) → Always n ⊑ register_rule w n a
register_above w n a = join_right (narrow w a) (Always n)

enable_fact : (b : Fact) (n : ℕ) {f f' : Fact} → f ⊑ f' → enable b n f ⊑ enable b n f'
enable_fact (Always k) n h = cond_mono (eqb k 0) itself h
enable_fact Open n h = h
enable_fact Marked n h = always_or_marked_mono h

module _ (n : ℕ) {f : Fact} (above : Always n ⊑ f) where
  enable_below : (k : ℕ) → enable (Always k) n f ⊑ f
  enable_below k = cond_case (λ z. z ⊑ f) (eqb k 0) (λ e. above) (λ e. itself)

  enable_up : {b b' : Fact} → b ⊑ b' → enable b n f ⊑ enable b' n f
  enable_up itself = itself
  enable_up (always_open {n = k}) = enable_below k
  enable_up (always_marked {n = k}) = ⊑_trans (enable_below k) (always_or_marked_above f)
  enable_up open_marked = always_or_marked_above f

  enable_above : (b : Fact) → Always n ⊑ enable b n f
  enable_above (Always k) = cond_case (λ z. Always n ⊑ z) (eqb k 0) (λ e. itself) (λ e. above)
  enable_above Open = above
  enable_above Marked = ⊑_trans above (always_or_marked_above f)

pub enabled_above : (w n : ℕ) (a b : Fact) → Always n ⊑ enabled_rule w n a b
enabled_above w n a b = enable_above n (register_above w n a) b

pub enabled_mono : (w n : ℕ) {a a' b b' : Fact} → a ⊑ a' → b ⊑ b' → enabled_rule w n a b ⊑ enabled_rule w n a' b'
enabled_mono w n {a' = x} {b = y} h k =
    ⊑_trans (enable_fact y n (register_mono w n h)) (enable_up n (register_above w n x) k)

-- What facts claim of two runs: claims carry upward, and each rule's claim holds of what the record makes of values
-- of which its operands' claims hold.
-- Assumes nothing.
use mathlib.Core.Path.{◌≡◌, refl}
use mathlib.Core.Bool.{Bool, true, false, cond}
use Prim.Native.Nat.{ℕ, ◌%◌, ◌^◌}
use lib.Dec.{T, eqb}
use Rattle.net.proofs.Bools.{T_of, cond_case}
use Rattle.circuit.specs.declared.operator.Operator as operator
use Rattle.circuit.specs.Operator.{result}
use Rattle.circuit.specs.Machine.{multiplex, take_or_hold}
use Rattle.fact.specs.declared.Fact.{Fact}
use Rattle.fact.specs.declared.Fact.TheVariants.{Always, Open, Marked}
use Rattle.fact.specs.Fact.{◌⊑◌, itself, always_open, always_marked, open_marked, join, narrow}
use Rattle.fact.specs.Rule.{known_zero, zero_decides, plain_rule, operator_rule}
use Rattle.fact.specs.Rule.{always_or_marked, choose, multiplexer_rule, register_rule, enabled_rule}
use Rattle.fact.specs.TwoRuns.{Claims, number, alike, nothing}
use Rattle.fact.proofs.Zeros.{decides_up, decided_result}
use Rattle.fact.proofs.Order.{join_left, join_right}

pub claims_always : {n x y : ℕ} → Claims (Always n) x y → (x ≡ n) × (y ≡ n)
claims_always number = (refl, refl)

pub claims_open : {x y : ℕ} → Claims Open x y → x ≡ y
claims_open alike = refl

-- a higher fact claims no more
pub claims_up : {x y : Fact} {a b : ℕ} → x ⊑ y → Claims x a b → Claims y a b
claims_up itself h = h
claims_up always_open number = alike
claims_up always_marked number = nothing
claims_up open_marked alike = nothing

claims_narrow : (w : ℕ) {x : Fact} {a b : ℕ} → Claims x a b → Claims (narrow w x) (a % 2 ^ w) (b % 2 ^ w)
claims_narrow w number = number
claims_narrow w alike = alike
claims_narrow w nothing = nothing

claims_plain : (op : operator.Operator) (w : ℕ) {x y : Fact} {a a' b b' : ℕ} → Claims x a a' → Claims y b b'
    → Claims (plain_rule op w x y) (result op w a b) (result op w a' b')
claims_plain op w number number = number
claims_plain op w number alike = alike
claims_plain op w number nothing = nothing
claims_plain op w alike number = alike
claims_plain op w alike alike = alike
claims_plain op w alike nothing = nothing
claims_plain op w nothing k = nothing

-- a known zero is 0 in both runs
claims_zero : {f : Fact} {x y : ℕ} → Claims f x y → T (known_zero f) → T (eqb x 0) × T (eqb y 0)
claims_zero number t = (t, t)
claims_zero alike t = absurd t
claims_zero nothing t = absurd t

pub claims_operator : (op : operator.Operator) (w : ℕ) {x y : Fact} {a a' b b' : ℕ} → Claims x a a' → Claims y b b'
    → Claims (operator_rule op w x y) (result op w a b) (result op w a' b')
claims_operator op w {x} {y} {a} {a'} {b} {b'} h k =
    cond_case (λ f. Claims f (result op w a b) (result op w a' b')) decides (λ e. rw (first e, second e) number)
    (λ _. claims_plain op w h k)
  where
    decides : Bool
    decides = zero_decides op (known_zero x) (known_zero y)

    zero : (a b : ℕ) → (T (known_zero x) → T (eqb a 0)) → (T (known_zero y) → T (eqb b 0)) → decides ≡ true
        → result op w a b ≡ 0
    zero a b f g e =
        decided_result op w a b
        (decides_up op (known_zero x) (known_zero y) (eqb a 0) (eqb b 0) f g (T_of decides e))

    first : decides ≡ true → result op w a b ≡ 0
    first = zero a b (λ z. (claims_zero h z).0) (λ z. (claims_zero k z).0)

    second : decides ≡ true → result op w a' b' ≡ 0
    second = zero a' b' (λ z. (claims_zero h z).1) (λ z. (claims_zero k z).1)

-- ---- the choice of an arm

-- the control is the same number in both runs
claims_same_arm : {x y : Fact} (t : Bool) {b b' c c' : ℕ} → Claims x b b' → Claims y c c'
    → Claims (cond t y x) (cond t c b) (cond t c' b')
claims_same_arm true h k = k
claims_same_arm false h k = h

-- the control is the same in both runs, and which number is not known
claims_either_arm : {x : Fact} (t : Bool) {b b' c c' : ℕ} → Claims x b b' → Claims x c c'
    → Claims x (cond t c b) (cond t c' b')
claims_either_arm true h k = k
claims_either_arm false h k = h

-- the control may differ in the two runs
claims_any_arms : (x : Fact) (t t' : Bool) {b b' c c' : ℕ} → Claims x b b' → Claims x c c'
    → Claims (always_or_marked x) (cond t c b) (cond t' c' b')
claims_any_arms (Always n) true true number number = number
claims_any_arms (Always n) true false number number = number
claims_any_arms (Always n) false true number number = number
claims_any_arms (Always n) false false number number = number
claims_any_arms Open t t' h k = nothing
claims_any_arms Marked t t' h k = nothing

claims_choose : {x y z : Fact} {a a' b b' c c' : ℕ} → Claims x a a' → Claims y b b' → Claims z c c'
    → Claims (choose x y z) (cond (eqb a 0) c b) (cond (eqb a' 0) c' b')
claims_choose (number {n}) k l = claims_same_arm (eqb n 0) k l
claims_choose {y} {z} (alike {x = a}) k l =
    claims_either_arm (eqb a 0) (claims_up (join_left y z) k) (claims_up (join_right y z) l)
claims_choose {y} {z} (nothing {x = a} {y = a'}) k l =
    claims_any_arms (join y z) (eqb a 0) (eqb a' 0) (claims_up (join_left y z) k) (claims_up (join_right y z) l)

cond_mod : (t : Bool) (b c k : ℕ) → cond t c b % k ≡ cond t (c % k) (b % k)
cond_mod true b c k = refl
cond_mod false b c k = refl

pub claims_multiplexer : (w : ℕ) {x y z : Fact} {a a' b b' c c' : ℕ} → Claims x a a' → Claims y b b' → Claims z c c'
    → Claims (multiplexer_rule w x y z) (multiplex w a b c) (multiplex w a' b' c')
claims_multiplexer w {a} {a'} {b} {b'} {c} {c'} h k l =
    rw (cond_mod (eqb a 0) b c (2 ^ w), cond_mod (eqb a' 0) b' c' (2 ^ w))
    (claims_choose h (claims_narrow w k) (claims_narrow w l))

pub claims_register : (w n : ℕ) {x : Fact} {a a' : ℕ} → Claims x a a'
    → Claims (register_rule w n x) (a % 2 ^ w) (a' % 2 ^ w)
claims_register w n {x} h = claims_up (join_left (narrow w x) (Always n)) (claims_narrow w h)

-- ---- a register with an enable

-- the enable is the same number in both runs
claims_same_enable : (t : Bool) (n : ℕ) {f : Fact} {x x' own own' : ℕ} → Claims f x x'
    → Claims (cond t (Always n) f) own own' → Claims (cond t (Always n) f) (cond t own x) (cond t own' x')
claims_same_enable true n h k = k
claims_same_enable false n h k = h

-- the enable may differ in the two runs: what is always is the same number taken or held
claims_any_enables : (f : Fact) (t t' : Bool) {x x' own own' : ℕ} → Claims f x x' → Claims (always_or_marked f) own own'
    → Claims (always_or_marked f) (cond t own x) (cond t' own' x')
claims_any_enables (Always n) t t' h k = claims_any_arms (Always n) t t' h k
claims_any_enables Open t t' h k = nothing
claims_any_enables Marked t t' h k = nothing

-- where its fact is claimed of what the register has, it is claimed of what it has after a tick
pub claims_enabled : (w n : ℕ) {x y : Fact} {a a' b b' own own' : ℕ} → Claims x a a' → Claims y b b'
    → Claims (enabled_rule w n x y) own own'
    → Claims (enabled_rule w n x y) (take_or_hold w a b own) (take_or_hold w a' b' own')
claims_enabled w n h (number {n = k}) held = claims_same_enable (eqb k 0) n (claims_register w n h) held
claims_enabled w n h (alike {x = b}) held = claims_either_arm (eqb b 0) (claims_register w n h) held
claims_enabled w n {x} h (nothing {x = b} {y = b'}) held =
    claims_any_enables (register_rule w n x) (eqb b 0) (eqb b' 0) (claims_register w n h) held

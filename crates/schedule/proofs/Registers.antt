-- The list of registers: each register of the circuit once, ascending; there is room for the list behind the wires,
-- and it can be written register by register.
-- Assumes nothing.
use mathlib.Core.Path.{◌≡◌, refl, sym, ap, ◌∙◌}
use mathlib.Core.Bool.{Bool, true, false}
use mathlib.Core.List.{List, [], ◌∷◌, ◌++◌}
use mathlib.Core.Logic.{⊎_elim}
use Prim.Native.Nat.{ℕ, zero, suc, ◌+◌, ◌-◌, ◌≤◌, ◌<◌}
use native.Mathlib.Nat.{eq-zero-or-pos, not-suc-le-zero, le_of_suc-le-suc}
use native.Mathlib.Numerals.{add-one}
use native.Mathlib.Omega.{arith}
use lib.ListN.{length, get_or, length-append}
use lib.Seq.{append_snoc, get_or_at}
use Rattle.net.specs.Net.{register, sum_below}
use Rattle.net.proofs.Bools.{true_false}
use Rattle.circuit.specs.Record.{role, is_register}
use Rattle.circuit.specs.Circuit.{Circuit, record_of}
use Rattle.schedule.specs.Schedule.{registers_from, register_list}
use Rattle.net.proofs.Cases.{by_same}
use Rattle.schedule.proofs.Uses.{register_role, role_register}

by_bool : {P : Type 0} (b : Bool) → (b ≡ true → P) → (b ≡ false → P) → P
by_bool true f g = f refl
by_bool false f g = g refl

-- ---- lists that grow in front

abbrev Each : (ℕ → Type 0) → List ℕ → Type 0
Each P l = (k : ℕ) → k < length l → P (get_or l k 0)

abbrev Ascending : List ℕ → Type 0
Ascending l = (j k : ℕ) → j < k → k < length l → get_or l j 0 < get_or l k 0

abbrev In : ℕ → List ℕ → Type 0
In v l = (k : ℕ) × (k < length l) × (get_or l k 0 ≡ v)

each_cons : (P : ℕ → Type 0) (x : ℕ) (l : List ℕ) → P x → Each P l → Each P (x ∷ l)
each_cons P x l p each zero h = p
each_cons P x l p each (suc k) h = each k (le_of_suc-le-suc h)

ascending_cons : (x : ℕ) (l : List ℕ) → Each (λ v. x < v) l → Ascending l → Ascending (x ∷ l)
ascending_cons x l below up j zero jk h = absurd (not-suc-le-zero jk)
ascending_cons x l below up zero (suc k) jk h = below k (le_of_suc-le-suc h)
ascending_cons x l below up (suc j) (suc k) jk h = up j k (le_of_suc-le-suc jk) (le_of_suc-le-suc h)

in_cons : (v x : ℕ) (l : List ℕ) → In v l → In v (x ∷ l)
in_cons v x l (k, h, e) = (suc k, omega arith, e)

-- ---- the registers from a variable on

module _ (c : Circuit) where
  registers_register : (count i : ℕ) → is_register (record_of c i) ≡ true
      → registers_from c (suc count) i ≡ i ∷ registers_from c count (i + 1)
  unfolding registers_from
  registers_register count i e = rw (e, registers_from)

  registers_other : (count i : ℕ) → is_register (record_of c i) ≡ false
      → registers_from c (suc count) i ≡ registers_from c count (i + 1)
  unfolding registers_from
  registers_other count i e = rw (e, registers_from)

  -- v is a register among `count` variables from variable i on
  abbrev RegisterFrom : ℕ → ℕ → ℕ → Type 0
  RegisterFrom count i v = (i ≤ v) × (v < i + count) × (is_register (record_of c v) ≡ true)

  later : (count i v : ℕ) → RegisterFrom count (i + 1) v → RegisterFrom (suc count) i v
  later count i v (low, high, e) = (omega arith, omega arith, e)

  from_each : (count i : ℕ) → Each (RegisterFrom count i) (registers_from c count i)
  unfolding registers_from
  from_each zero i = λ k h. absurd (not-suc-le-zero h)
  from_each (suc count) i =
      let rest : Each (RegisterFrom (suc count) i) (registers_from c count (i + 1)) =
      λ k l. later count i (get_or (registers_from c count (i + 1)) k 0) (from_each count (i + 1) k l) in
      by_bool (is_register (record_of c i))
      (λ q. rw (registers_register count i q)
      (each_cons (RegisterFrom (suc count) i) i (registers_from c count (i + 1)) (omega arith, omega arith, q) rest))
      (λ q. rw (registers_other count i q) rest)

  from_ascending : (count i : ℕ) → Ascending (registers_from c count i)
  unfolding registers_from
  from_ascending zero i = λ j k jk h. absurd (not-suc-le-zero h)
  from_ascending (suc count) i =
      let rest : Ascending (registers_from c count (i + 1)) = from_ascending count (i + 1) in
      by_bool (is_register (record_of c i))
      (λ q. rw (registers_register count i q)
      (ascending_cons i (registers_from c count (i + 1)) (λ k l. omega (arith, (from_each count (i + 1) k l).0)) rest))
      (λ q. rw (registers_other count i q) rest)

  from_all : (count i v : ℕ) → RegisterFrom count i v → In v (registers_from c count i)
  from_all zero i v (low, high, e) = absurd (omega arith)
  from_all (suc count) i v (low, high, e) =
      by_same v i
      (λ same. rw (registers_register count i (rw same at e)) (0, omega arith, sym same))
      (λ ne.
      let rest : In v (registers_from c count (i + 1)) = from_all count (i + 1) v (omega arith, omega arith, e) in
      by_bool (is_register (record_of c i))
      (λ q. rw (registers_register count i q) (in_cons v i (registers_from c count (i + 1)) rest))
      (λ q. rw (registers_other count i q) rest))

  -- ---- the registers of the circuit

  pub register_list_register : (k : ℕ) → k < length (register_list c)
      → (get_or (register_list c) k 0 < length c) × (role (record_of c (get_or (register_list c) k 0)) ≡ register)
  unfolding register_list
  register_list_register k l =
      let (low, high, e) = from_each (length c) 0 k l in
      (omega arith, register_role (record_of c (get_or (register_list c) k 0)) e)

  pub register_list_ascending : (j k : ℕ) → j < k → k < length (register_list c)
      → get_or (register_list c) j 0 < get_or (register_list c) k 0
  unfolding register_list
  register_list_ascending = from_ascending (length c) 0

  pub register_list_all : (v : ℕ) → v < length c → role (record_of c v) ≡ register
      → (k : ℕ) × (k < length (register_list c)) × (get_or (register_list c) k 0 ≡ v)
  unfolding register_list
  register_list_all v l e =
      from_all (length c) 0 v (omega arith, omega arith, role_register (record_of c v) e)

  -- ---- room

  -- registers and marked variables have room beside each other, if no register is marked
  module _ (n : ℕ) (mark : ℕ → ℕ) (small : (v : ℕ) → v < n → mark v ≤ 1)
      (apart : (v : ℕ) → v < n → 0 < mark v → is_register (record_of c v) ≡ false) where
    unmarked : (v : ℕ) → v < n → is_register (record_of c v) ≡ true → mark v ≡ 0
    unmarked v l e = ⊎_elim (λ z. z) (λ p. true_false (sym e ∙ apart v l p)) (eq-zero-or-pos (mark v))

    sum_next : (i : ℕ) → sum_below mark (i + 1) ≡ mark i + sum_below mark i
    unfolding sum_below
    sum_next i = rw (add-one i)

    room_from : (count i : ℕ) → i + count ≡ n
        → sum_below mark n + length (registers_from c count i) ≤ sum_below mark i + count
    unfolding registers_from
    room_from zero i e =
        let same : i ≡ n = omega arith in
        omega (arith, ap (sum_below mark) same)
    room_from (suc count) i e =
        let rest : sum_below mark n + length (registers_from c count (i + 1)) ≤ sum_below mark (i + 1) + count =
        room_from count (i + 1) (omega arith) in
        by_bool (is_register (record_of c i))
        (λ q. rw (registers_register count i q) (omega (arith, rest, sum_next i, unmarked i (omega arith) q)))
        (λ q. rw (registers_other count i q) (omega (arith, rest, sum_next i, small i (omega arith))))

  pub register_list_room : (n : ℕ) → length c ≡ n → (mark : ℕ → ℕ) → ((v : ℕ) → v < n → mark v ≤ 1)
      → ((v : ℕ) → v < n → 0 < mark v → is_register (record_of c v) ≡ false)
      → sum_below mark n + length (register_list c) ≤ n
  unfolding register_list sum_below
  register_list_room n len mark small apart =
      rw len (omega (arith, room_from n mark small apart n 0 (omega arith)))

-- ---- the list as it is written, register by register

-- of the registers, those before variable i are `count`, and the others follow
pub record Written (c : Circuit) (n count i : ℕ) : Type 0 where
  pub front : List ℕ
  pub size : length front ≡ count
  pub whole : front ++ registers_from c (n - i) i ≡ register_list c

pub written_none : (c : Circuit) (n : ℕ) → length c ≡ n → Written c n 0 0
unfolding register_list
written_none c n len =
    let e : n - 0 ≡ length c = omega arith in
    record { front = []; size = refl; whole = rw e }

module _ {c : Circuit} {n count : ℕ} where
  pub written_all : {i : ℕ} → Written c n count i → n ≤ i → count ≡ length (register_list c)
  unfolding registers_from
  written_all {i} w h =
      let e : n - i ≡ 0 = omega arith in
      let none : length (registers_from c (n - i) i) ≡ 0 = rw e in
      omega (arith, w.size, length-append w.front (registers_from c (n - i) i), ap length w.whole)

  module _ {i : ℕ} (l : i < n) (w : Written c n count i) where
    left : n - i ≡ suc (n - (i + 1))
    left = omega arith

    pub written_other : is_register (record_of c i) ≡ false → Written c n count (i + 1)
    written_other e =
        record {
          front = w.front;
          size = w.size;
          whole = rw (sym (registers_other c (n - (i + 1)) i e), sym left) w.whole;
        }

    module _ (e : is_register (record_of c i) ≡ true) where
      split : w.front ++ (i ∷ registers_from c (n - (i + 1)) (i + 1)) ≡ register_list c
      split = rw (sym (registers_register c (n - (i + 1)) i e), sym left) w.whole

      pub written_register : Written c n (count + 1) (i + 1)
      written_register =
          record {
            front = w.front ++ (i ∷ []);
            size = rw (length-append w.front (i ∷ [])) (omega (arith, w.size));
            whole = append_snoc w.front i (registers_from c (n - (i + 1)) (i + 1)) ∙ split;
          }

      pub written_below : count < length (register_list c)
      written_below =
          omega (
            arith,
            w.size,
            length-append w.front (i ∷ registers_from c (n - (i + 1)) (i + 1)),
            ap length split,
          )

      pub written_here : i ≡ get_or (register_list c) count 0
      written_here =
          sym (get_or_at w.front i (registers_from c (n - (i + 1)) (i + 1)) 0 count w.size)
          ∙ ap (λ (l : List ℕ). get_or l count 0) split

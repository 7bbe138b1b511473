-- The text tells the answer: two answers of a call that are printed alike are the same.
-- Assumes nothing.
use mathlib.Core.Path.{◌≡◌, refl, sym, ap, ap₂, ◌∙◌}
use mathlib.Core.Bool.{true}
use mathlib.Core.List.{List, [], ◌∷◌, ◌++◌, append_assoc, append-nil}
use Prim.Native.Nat.{ℕ, zero, suc, ◌+◌, ◌-◌, ◌≤◌, ◌<◌}
use native.Mathlib.Omega.{arith}
use lib.ListN.{length, get_or}
use Rattle.std.specs.List.{list_all}
use Rattle.net.proofs.Cases.{by_same}
use Rattle.circuit.specs.declared.refusal.Ground.{Ground}
use Rattle.circuit.specs.Refusal.{ground_number}
use Rattle.circuit.proofs.Places.{ground_told}
use Rattle.circuit.proofs.Stimuli.{both_true}
use Rattle.std.specs.Prelude.{Ok, Err}
use Rattle.call.specs.Call.{Answer, accepted, refused}
use Rattle.text.specs.Text.{decimal, newline, is_refused, rounds, bill, refusal_line, pieces, spaced, row_line}
use Rattle.text.specs.Text.{refusal_text, certified_text, benched_text, billed_text, path_text, answer_text}
use Rattle.text.specs.Words.{is_digit, value}
use Rattle.text.proofs.Decimal.{decimal_some}
use Rattle.text.proofs.Words.{digit_at, digits_value, decimal_digits}
use Rattle.text.proofs.Answers.{loop_text, other_text}

-- ---- a number, up to what ends it

-- digits, the first other byte behind them, and what stands behind that
split : (d d' : ℕ) (xs ys r r' : List ℕ) → d < 48 → d' < 48 → list_all is_digit xs ≡ true → list_all is_digit ys ≡ true
    → xs ++ (d ∷ r) ≡ ys ++ (d' ∷ r') → (xs ≡ ys) × (d ≡ d') × (r ≡ r')
split d d' [] [] r r' low low' w w' e = (refl, cc, cc)
split d d' [] (y ∷ ys) r r' low low' w w' e =
    let same : d ≡ y = cc in absurd (omega (arith, (digit_at (y ∷ ys) 0 w' (omega arith)).0))
split d d' (x ∷ xs) [] r r' low low' w w' e =
    let same : x ≡ d' = cc in absurd (omega (arith, (digit_at (x ∷ xs) 0 w (omega arith)).0))
split d d' (x ∷ xs) (y ∷ ys) r r' low low' w w' e =
    let same : x ≡ y = cc in
    let both : xs ++ (d ∷ r) ≡ ys ++ (d' ∷ r') = cc in
    let (digits, end, rest) =
    split d d' xs ys r r' low low' (both_true (is_digit x) (list_all is_digit xs) w).1
    (both_true (is_digit y) (list_all is_digit ys) w').1 both in
    (ap₂ (λ (z : ℕ) (zs : List ℕ). z ∷ zs) same digits, end, rest)

-- a number in base ten, ended by a byte that is no digit, that byte and what stands behind
decimal_told : (d d' m n : ℕ) (r r' : List ℕ) → d < 48 → d' < 48 → decimal m ++ (d ∷ r) ≡ decimal n ++ (d' ∷ r')
    → (m ≡ n) × (d ≡ d') × (r ≡ r')
unfolding decimal
decimal_told d d' m n r r' low low' e =
    let (same, end, rest) =
    split d d' (decimal m) (decimal n) r r' low low' (decimal_digits m) (decimal_digits n) e in
    (sym (digits_value (suc m) m (omega arith)) ∙ ap (value 0) same ∙ digits_value (suc n) n (omega arith), end, rest)

-- a number begins with no letter
number_apart : (n b : ℕ) (r r' : List ℕ) → 57 < b → decimal n ++ r ≡ b ∷ r' → ⊥
number_apart n b r r' letter e = first (decimal n) (decimal_some n) (decimal_digits n) e
  where
    first : (xs : List ℕ) → 1 ≤ length xs → list_all is_digit xs ≡ true → xs ++ r ≡ b ∷ r' → ⊥
    first [] some w same = omega arith
    first (x ∷ xs) some w same =
        let here : x ≡ b = cc in omega (arith, (digit_at (x ∷ xs) 0 w (omega arith)).1)

-- ---- lines

append_told : (p x y : List ℕ) → p ++ x ≡ p ++ y → x ≡ y
append_told [] x y e = e
append_told (z ∷ p) x y e = append_told p x y (cc)

refusal_told : (g h : Ground) (i j : ℕ) (r r' : List ℕ) → refusal_line g i ++ r ≡ refusal_line h j ++ r'
    → refused g i ≡ refused h j
refusal_told g h i j r r' e =
    let (number, _, places) =
    decimal_told 32 32 (ground_number g) (ground_number h) _ _ (omega arith) (omega arith)
    (append_told is_refused _ _ (simp append_assoc at e)) in
    let (place, _, _) =
    decimal_told 10 10 i j r r' (omega arith) (omega arith) (append_told (97 ∷ 116 ∷ 32 ∷ []) _ _ places) in
    ap₂ refused (ground_told g h number) place

-- a refusal begins with its line
refusal_begins : (g : Ground) (place : ℕ) (s : List ℕ)
    → (r : List ℕ) × (refusal_text g place s ≡ refusal_line g place ++ r)
refusal_begins g place s =
    by_same (ground_number g) 11
    (λ e. (row_line s place, loop_text g place s e))
    (λ ne. ([], other_text g place s ne ∙ sym (append-nil (refusal_line g place))))

-- the numbers of a row behind one of them: how many there are
row_told : (s s' : List ℕ) (count count' i i' x x' : ℕ)
    → decimal x ++ (pieces (spaced s) count i ++ newline) ≡ decimal x' ++ (pieces (spaced s') count' i' ++ newline)
    → count ≡ count'
unfolding pieces
row_told s s' zero zero i i' x x' e = refl
row_told s s' zero (suc count') i i' x x' e =
    absurd (omega (arith, (decimal_told 10 32 x x' _ _ (omega arith) (omega arith) e).1))
row_told s s' (suc count) zero i i' x x' e =
    absurd (omega (arith, (decimal_told 32 10 x x' _ _ (omega arith) (omega arith) e).1))
row_told s s' (suc count) (suc count') i i' x x' e =
    let (_, _, rest) = decimal_told 32 32 x x' _ _ (omega arith) (omega arith) e in
    ap suc
    (row_told s s' count count' (i + 1) (i' + 1) (get_or s i 0) (get_or s' i' 0)
    (sym (append_assoc (decimal (get_or s i 0)) _ newline) ∙ rest ∙ append_assoc (decimal (get_or s' i' 0)) _ newline))

-- ---- answers

-- Where what two accepted answers show tells the numbers that they carry, and is no refusal, the text tells the answer.
pub text_told : (shown shown' : ℕ → List ℕ) (a a' : Answer) (s s' : List ℕ)
    → ((k k' : ℕ) → a ≡ accepted k → a' ≡ accepted k' → shown k ≡ shown' k' → k ≡ k')
    → ((k : ℕ) (g : Ground) (place : ℕ) (r : List ℕ) → shown k ≡ refusal_line g place ++ r → ⊥)
    → ((k : ℕ) (g : Ground) (place : ℕ) (r : List ℕ) → shown' k ≡ refusal_line g place ++ r → ⊥)
    → answer_text shown a s ≡ answer_text shown' a' s' → a ≡ a'
text_told shown shown' (Ok k) (Ok k') s s' number apart apart' e = ap accepted (number k k' refl refl e)
text_told shown shown' (Ok k) (Err b) s s' number apart apart' e =
    let (r, begins) = refusal_begins b.reason b.place s' in absurd (apart k b.reason b.place r (e ∙ begins))
text_told shown shown' (Err a) (Ok k) s s' number apart apart' e =
    let (r, begins) = refusal_begins a.reason a.place s in absurd (apart' k a.reason a.place r (sym e ∙ begins))
text_told shown shown' (Err a) (Err b) s s' number apart apart' e =
    let (r, begins) = refusal_begins a.reason a.place s in
    let (r', begins') = refusal_begins b.reason b.place s' in
    refusal_told a.reason b.reason a.place b.place r r' (sym begins ∙ e ∙ begins')

rounds_apart : (cells : List ℕ) (n k : ℕ) (g : Ground) (place : ℕ) (r : List ℕ)
    → certified_text cells n k ≡ refusal_line g place ++ r → ⊥
rounds_apart cells n k g place r e = let z : ◌≡◌ {A = ℕ} 111 101 = cc in omega arith

pub certified_told : (cells cells' : List ℕ) (n n' : ℕ) (a a' : Answer) (s s' : List ℕ)
    → answer_text (certified_text cells n) a s ≡ answer_text (certified_text cells' n') a' s' → a ≡ a'
certified_told cells cells' n n' a a' s s' =
    text_told (certified_text cells n) (certified_text cells' n') a a' s s'
    (λ k k' _ _ e.
    (decimal_told 10 10 k k' _ _ (omega arith) (omega arith) (append_told rounds _ _ (simp append_assoc at e))).0)
    (rounds_apart cells n) (rounds_apart cells' n')

values_apart : (values : List ℕ) (n k : ℕ) (g : Ground) (place : ℕ) (r : List ℕ)
    → benched_text values n k ≡ refusal_line g place ++ r → ⊥
unfolding pieces
values_apart values zero k g place r e = let z : ◌≡◌ {A = ℕ} 0 1 = cc in omega arith
values_apart values (suc n) k g place r e =
    number_apart 0 114 _ _ (omega arith) (sym (append_assoc (decimal 0) _ _) ∙ e)

pub benched_told : (values values' : List ℕ) (n n' : ℕ) (a a' : Answer) (s s' : List ℕ)
    → ((k : ℕ) → a ≡ accepted k → k ≡ 0) → ((k : ℕ) → a' ≡ accepted k → k ≡ 0)
    → answer_text (benched_text values n) a s ≡ answer_text (benched_text values' n') a' s' → a ≡ a'
benched_told values values' n n' a a' s s' none none' =
    text_told (benched_text values n) (benched_text values' n') a a' s s'
    (λ k k' is is' e. none k is ∙ sym (none' k' is'))
    (values_apart values n) (values_apart values' n')

bill_apart : (shares : List ℕ) (n k : ℕ) (g : Ground) (place : ℕ) (r : List ℕ)
    → billed_text shares n k ≡ refusal_line g place ++ r → ⊥
bill_apart shares n k g place r e = let z : ◌≡◌ {A = ℕ} 98 114 = cc in omega arith

pub billed_told : (shares shares' : List ℕ) (n n' : ℕ) (a a' : Answer)
    → answer_text (billed_text shares n) a [] ≡ answer_text (billed_text shares' n') a' [] → a ≡ a'
billed_told shares shares' n n' a a' =
    text_told (billed_text shares n) (billed_text shares' n') a a' [] []
    (λ k k' _ _ e.
    (decimal_told 10 10 k k' _ _ (omega arith) (omega arith) (append_told bill _ _ (simp append_assoc at e))).0)
    (bill_apart shares n) (bill_apart shares' n')

path_apart : (row : List ℕ) (n k : ℕ) (g : Ground) (place : ℕ) (r : List ℕ)
    → path_text row n k ≡ refusal_line g place ++ r → ⊥
path_apart row n k g place r e = number_apart (get_or row 0 0) 114 _ _ (omega arith) e

pub traced_told : (row row' : List ℕ) (n n' : ℕ) (a a' : Answer) (s s' : List ℕ)
    → ((k : ℕ) → a ≡ accepted k → 1 ≤ k) → ((k : ℕ) → a' ≡ accepted k → 1 ≤ k)
    → answer_text (path_text row n) a s ≡ answer_text (path_text row' n') a' s' → a ≡ a'
traced_told row row' n n' a a' s s' some some' =
    text_told (path_text row n) (path_text row' n') a a' s s'
    (λ k k' is is' e. omega (arith, some k is, some' k' is', row_told row row' (k - 1) (k' - 1) 1 1 _ _ e))
    (path_apart row n) (path_apart row' n')

-- Pieces of text put one before the other are one text.
-- Assumes nothing.
use mathlib.Core.Path.{◌≡◌, refl, sym, ap, ◌∙◌, subst}
use mathlib.Core.List.{List, [], ◌∷◌, ◌++◌, append_assoc}
use Prim.Native.Nat.{ℕ, ◌+◌, ◌/◌, ◌%◌, ◌≤◌, ◌<◌}
use native.Mathlib.Omega.{arith}
use lib.ListN.{length, take, drop, length-append}
use lib.Seq.{take-take}
use Rattle.text.specs.declared.writer.Writer.{Writer}
use Rattle.text.specs.Text.{decimal}
use Rattle.text.specs.Pieces.{Put}
use Rattle.text.specs.Writer.{Puts}
use Rattle.text.proofs.Decimal.{decimal_one, decimal_more, decimal_some}

pub put_none : (entry : List ℕ) (from : ℕ) → Put [] entry from entry from
put_none entry from = record { start = omega arith; long = refl; stands = refl; kept = refl }

pub put_then : {a b entry middle exit : List ℕ} {from p r : ℕ} → Put a entry from middle p → Put b middle p exit r
    → Put (b ++ a) entry from exit r
put_then {a} {b} {entry} {middle} {from = from} {p = p} {r = r} x y =
    record {
      start = omega (arith, length-append b a, x.start, y.start);
      long = y.long ∙ x.long;
      stands =
          y.stands ∙ ap (λ (l : List ℕ). b ++ l) x.stands ∙ sym (append_assoc b a (drop from entry));
      kept =
          y.kept
          ∙ sym (take-take r p middle below) ∙ ap (λ (l : List ℕ). take r l) x.kept ∙ take-take r p entry below;
    }
  where
    below : r ≤ p
    below = omega (arith, y.start)

-- the same text in other words
pub put_as : {a b entry exit : List ℕ} {from r : ℕ} → a ≡ b → Put a entry from exit r → Put b entry from exit r
put_as {entry = entry} {exit = exit} {from = from} {r = r} e x =
    subst (λ (text : List ℕ). Put text entry from exit r) e x

-- ---- through a writer

pub puts_none : (w : Writer) → Puts [] w w
puts_none w = record { same_reference = refl; put = put_none w.out.now w.at }

pub puts_then : {a b : List ℕ} {x y z : Writer} → Puts a x y → Puts b y z → Puts (b ++ a) x z
puts_then p q =
    record { same_reference = q.same_reference ∙ p.same_reference; put = put_then p.put q.put }

-- the same text in other words
pub puts_as : {a b : List ℕ} {x y : Writer} → a ≡ b → Puts a x y → Puts b x y
puts_as e p = record { same_reference = p.same_reference; put = put_as e p.put }

-- ---- a number in base ten, from its last digit on

-- the digits before those that stand are those of the rest
pub record PutsDigits (n rest : ℕ) (x y : Writer) : Type 0 where
  pub text : List ℕ
  pub split : decimal n ≡ decimal rest ++ text
  pub puts : Puts text x y

pub digits_room : {n rest : ℕ} {x y : Writer} → PutsDigits n rest x y → length (decimal n) ≤ x.at → 1 ≤ y.at
digits_room {rest = rest} d h =
    omega (arith, ap length d.split, length-append (decimal rest) d.text, d.puts.put.start, decimal_some rest)

pub one_digit : {n rest : ℕ} {x y z : Writer} → PutsDigits n rest x y → 10 ≤ rest
    → Puts ((48 + rest % 10) ∷ []) y z → PutsDigits n (rest / 10) x z
one_digit {rest = rest} d h p =
    record {
      text = (48 + rest % 10) ∷ d.text;
      split =
          d.split
          ∙ ap (λ (l : List ℕ). l ++ d.text) (decimal_more rest h)
          ∙ append_assoc (decimal (rest / 10)) ((48 + rest % 10) ∷ []) d.text;
      puts = puts_then d.puts p;
    }

pub last_digit : {n rest : ℕ} {x y z : Writer} → PutsDigits n rest x y → rest < 10 → Puts ((48 + rest) ∷ []) y z
    → Puts (decimal n) x z
last_digit {rest = rest} d h p =
    puts_as (sym (d.split ∙ ap (λ (l : List ℕ). l ++ d.text) (decimal_one rest h))) (puts_then d.puts p)

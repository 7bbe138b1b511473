-- Pieces of text in a row, put from the last one down.
-- Assumes nothing.
use mathlib.Core.Path.{◌≡◌, sym, ap, ◌∙◌}
use mathlib.Core.List.{List, ◌++◌}
use Prim.Native.Nat.{ℕ, suc, ◌+◌, ◌-◌, ◌≤◌, ◌<◌}
use native.Mathlib.Omega.{arith}
use Rattle.text.specs.Text.{pieces}
use Rattle.text.specs.declared.writer.Writer.{Writer}
use Rattle.text.specs.Writer.{Puts}
use Rattle.text.proofs.Pieces.{puts_none, puts_then, puts_as}

-- the row of what lies from place v on up to the end of n, with the piece before it
one_piece : (text : ℕ → List ℕ) (n v : ℕ) → 0 < v → v ≤ n
    → pieces text (n - (v - 1)) (v - 1) ≡ text (v - 1) ++ pieces text (n - v) v
unfolding pieces
one_piece text n v some h =
    let left : n - (v - 1) ≡ suc (n - v) = omega arith in
    let here : v - 1 + 1 ≡ v = omega arith in
    ap (λ (k : ℕ). pieces text k (v - 1)) left
    ∙ ap (λ (k : ℕ). text (v - 1) ++ pieces text (n - v) k) here

module _ (text : ℕ → List ℕ) (n : ℕ) where
  pub no_pieces : (w : Writer) → Puts (pieces text (n - n) n) w w
  unfolding pieces
  no_pieces w =
      let none : n - n ≡ 0 = omega arith in
      puts_as (ap (λ (k : ℕ). pieces text k n) (sym none)) (puts_none w)

  pub one_more : {x y z : Writer} (v : ℕ) → 0 < v → v ≤ n → Puts (pieces text (n - v) v) x y
      → Puts (text (v - 1)) y z → Puts (pieces text (n - (v - 1)) (v - 1)) x z
  one_more v some h p q = puts_as (sym (one_piece text n v some h)) (puts_then p q)

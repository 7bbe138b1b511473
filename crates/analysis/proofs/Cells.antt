-- Facts in three 16-bit numbers a variable: what is read of them is the fact, they are written one after another, they
-- stay while what lies behind them is written, and the rule's facts on what is read.
-- Assumes nothing.
use mathlib.Core.Path.{◌≡◌, refl, ap, ◌∙◌}
use mathlib.Core.List.{List}
use Prim.Native.Nat.{ℕ, ◌+◌, ◌*◌, ◌/◌, ◌%◌, ◌<◌, ◌≤◌}
use native.Mathlib.Numerals.{add-one, add-two}
use native.Mathlib.Omega.{arith}
use lib.ListN.{length, get_or, set}
use Rattle.buffer.specs.Kept.{KeptOutside}
use Rattle.buffer.specs.Store.{Wrote, Stands}
use Rattle.buffer.proofs.Layouts.{wrote_sets}
use Rattle.fact.specs.declared.Fact.{Fact}
use Rattle.fact.specs.declared.Fact.TheVariants.{Always, Open, Marked}
use Rattle.fact.specs.Fact.{fact_byte, fact_number, fact_of}
use Rattle.analysis.specs.Laws.{words_laws}
use Rattle.analysis.specs.Cells.{words, words_at}

fact_of_lem : (f : Fact) (n : ℕ) → n ≡ fact_number f → fact_of (fact_byte f) n ≡ f
fact_of_lem (Always m) n e = ap Always e
fact_of_lem Open n e = refl
fact_of_lem Marked n e = refl

-- a fact's three numbers, written one after another; its number is x
pub fact_stored : (l : List ℕ) (i : ℕ) (f : Fact) {b x : ℕ} → b ≡ fact_byte f → x ≡ fact_number f → i + 3 ≤ length l
    → Wrote words l (set (set (set l i b) (i + 1) (x % 65536)) (i + 2) (x / 65536)) i f
fact_stored l i f byte number room =
    rw (add-one i, add-two i, byte, number) (wrote_sets words_laws l i f (fact_of_lem f _ (omega arith)) room)

-- the facts of n variables, while what lies behind them is written
module _ {n from to : ℕ} {s s' : List ℕ} (low : n * 3 ≤ from) (p : KeptOutside from to s s') where
  same_number : (i v m : ℕ) → v < n → m < 3 → i ≡ v * 3 → get_or s' (i + m) 0 ≡ get_or s (i + m) 0
  same_number i v m h q e = p.before (i + m) (omega arith)

  pub words_same : {v : ℕ} → v < n → words_at s' v ≡ words_at s v
  words_same {v} h = words_laws.local s' s (v * 3) (v * 3) (λ m q. same_number (v * 3) v m h q refl)

  pub stands_same : {f : ℕ → Fact} → Stands words 0 n f s → Stands words 0 n f s'
  stands_same q =
      record {
        cell = λ v h.
            let here : (m : ℕ) → m < 3 → get_or s' (0 + v * 3 + m) 0 ≡ get_or s (0 + v * 3 + m) 0 =
            λ m l. same_number (0 + v * 3) v m h l (omega arith) in
            record {
              stands = λ m l. here m l ∙ (q.cell v h).stands m l;
              reads = words_laws.local s' s (0 + v * 3) (0 + v * 3) here ∙ (q.cell v h).reads;
            };
      }

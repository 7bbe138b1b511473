-- The layout of facts in three 16-bit numbers keeps the laws of one.
-- Assumes nothing.
use Rattle.std.proofs.Common.{refl, arith}
use Rattle.std.proofs.Math.Nat.{add-zero}
use Rattle.buffer.specs.Store.{LayoutLaws}
use Rattle.analysis.specs.Cells.{words}

pub words_laws : LayoutLaws words
words_laws =
    record {
      size = λ x. refl;
      local = λ k l i j h. cc (simp add-zero at (h 0 (omega arith)), h 1 (omega arith), h 2 (omega arith));
    }

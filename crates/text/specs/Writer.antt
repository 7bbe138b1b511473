-- What is put through a writer: for contracts of what puts it.
-- Assumes nothing.
use Rattle.std.specs.Prelude.{◌≡◌, List, ℕ}
use Rattle.text.specs.declared.writer.Writer.{Writer}
use Rattle.text.specs.Pieces.{Put}

-- the text stands before what stood, in the same buffer
pub record Puts (text : List ℕ) (old new : Writer) : Type 0 where
  pub same_reference : new.out.ghost_name ≡ old.out.ghost_name
  pub put : Put text old.out.now old.at new.out.now new.at

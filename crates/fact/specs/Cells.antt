-- How facts stand in a certificate's bytes.
-- Assumes nothing.
use Rattle.std.specs.Prelude.{◌+◌, get_or}
use Rattle.buffer.specs.Store.{Layout}
use Rattle.circuit.specs.Number.{u32_at}
use Rattle.fact.specs.declared.Fact.{Fact}
use Rattle.fact.specs.Fact.{fact_bytes, fact_of}

-- 8 bytes a variable
abbrev pub facts : Layout Fact
facts = record { each = 8; image = fact_bytes; at = λ l i. fact_of (get_or l i 0) (u32_at l (i + 4)) }

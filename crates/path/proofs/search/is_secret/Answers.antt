-- Of inputs, those with code 2, which is the last.
-- Assumes nothing.
use Rattle.std.proofs.Common.{◌*◌, sym, ◌∙◌}
use borrow.Author.Tests.{ne_eqb}
use Rattle.circuit.specs.Reading.{fields_at}
use Rattle.path.proofs.Secrets.{no_input, input_secret}
use Rattle.path.proofs.search.is_secret.Goals as goal

pub returns-then-kind_at-eq0 : goal.returns-then-kind_at-eq0
returns-then-kind_at-eq0 c =
    rw c.code_at.ensures
    (sym (input_secret (fields_at c.args.t.now (c.args.v * 16)) (sym c.kind_at.ensures ∙ c.if-kind_at-eq0.true)))

pub returns-else-kind_at-eq0 : goal.returns-else-kind_at-eq0
returns-else-kind_at-eq0 c =
    ne_eqb _ 0 c.if-kind_at-eq0.false
    ∙ sym (no_input (fields_at c.args.t.now (c.args.v * 16)) (λ e. c.if-kind_at-eq0.false (c.kind_at.ensures ∙ e)))

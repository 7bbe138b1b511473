-- What is called always uses none; of any other variable the table's record is read.
-- Assumes nothing.
use Rattle.std.proofs.Common.{sym, ap, ◌∙◌, length}
use Rattle.circuit.specs.declared.record.Record.{Record}
use Rattle.circuit.specs.Record.{uses}
use Rattle.circuit.proofs.Tables.{records_valid}
use Rattle.trim.proofs.Replaced.{called_none, called_own}
use Rattle.trim.proofs.reach.called_uses.Goals as goal

pub returns-then-certificate-v-eq-ALWAYS : goal.returns-then-certificate-v-eq-ALWAYS
returns-then-certificate-v-eq-ALWAYS c =
    sym (ap length (called_none _ c.args.certificate.now _ c.args.v c.requires.1
    c.if-certificate-v-eq-ALWAYS.true))

pub use_count-requires-clause-v_bound : goal.use_count-requires-clause-v_bound
use_count-requires-clause-v_bound c =
    (records_valid _ _ c.args.table.now.checked.valid c.args.v c.requires.1).kind

pub returns : goal.returns
returns c =
    c.use_count.ensures
    ∙ sym (ap (λ (r : Record). length (uses r))
    (called_own _ c.args.certificate.now _ c.args.v c.requires.1
    c.if-certificate-v-eq-ALWAYS.false))

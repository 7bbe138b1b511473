-- The first kept number that is past the records is told, or none is.
-- Assumes nothing.
use Rattle.std.proofs.Common.{rules, tests, ◌≡◌, sym, ap, ◌∙◌}
use Rattle.std.specs.List.{position_from}
use Rattle.std.proofs.Math.Dec.{leb}
use Rattle.std.proofs.lemmas.Iterator.{YieldsList-from_slice}
use Rattle.std.proofs.lemmas.Iterator.Adapters.{position_from-zero}
use Rattle.std.proofs.lemmas.Iterator.Search.{position_from_yields_List}
use Rattle.trim.proofs.Grounds.{kept_answer, kept_first}
use Rattle.trim.proofs.checks.check_kept.Goals as goal

pub returns-in-Some : goal.returns-in-Some
returns-in-Some c =
    let kept = c.args.kept.now in
    let first : c.position.result ≡ position_from (leb c.args.n) 0 kept =
    position_from_yields_List _ _ _ c.position.result c.position.ensures.ran
    (YieldsList-from_slice kept c.iter.ensures.rest) (λ x b q k. search (rules, tests))
    ∙ position_from-zero (leb c.args.n) kept in
    rw c.at.ensures (ap kept_answer (sym c.in-Some.is ∙ first) ∙ kept_first c.args.n kept 0)

pub returns-in-None : goal.returns-in-None
returns-in-None c =
    let kept = c.args.kept.now in
    let first : c.position.result ≡ position_from (leb c.args.n) 0 kept =
    position_from_yields_List _ _ _ c.position.result c.position.ensures.ran
    (YieldsList-from_slice kept c.iter.ensures.rest) (λ x b q k. search (rules, tests))
    ∙ position_from-zero (leb c.args.n) kept in
    ap kept_answer (sym c.in-None.is ∙ first) ∙ kept_first c.args.n kept 0

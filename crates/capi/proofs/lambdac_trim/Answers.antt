-- The trimming call's promise, of the answer that is packed.
-- Assumes nothing.
use Rattle.std.proofs.Common.{◌≡◌, ap, ◌∙◌, rules}
use Rattle.capi.specs.Packed.{packed, cut}
use Rattle.capi.proofs.Packed.{trimmed_low}
use Rattle.capi.proofs.lambdac_trim.Goals as goal

pub pack-requires : goal.pack-requires
pack-requires c =
    let same : c.map_err.result ≡ cut c.trim-answer.result = search rules in
    rw same (trimmed_low _ _ _ _ c.trim-answer.result c.trim-answer.ensures)

pub returns : goal.returns
returns c =
    let same : c.map_err.result ≡ cut c.trim-answer.result = search rules in
    record {
      answer = c.trim-answer.result;
      low = trimmed_low _ _ _ _ c.trim-answer.result c.trim-answer.ensures;
      is = c.pack.ensures ∙ ap packed same;
      promises = c.trim-answer.ensures;
    }

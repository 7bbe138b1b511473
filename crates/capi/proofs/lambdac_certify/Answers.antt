-- The certifying call's promise, of the answer that is packed.
-- Assumes nothing.
use Rattle.std.proofs.Common.{◌≡◌, ap, ◌∙◌, rules}
use Rattle.capi.specs.Packed.{packed}
use Rattle.capi.proofs.Packed.{certified_low}
use Rattle.capi.proofs.lambdac_certify.Goals as goal

pub pack-requires : goal.pack-requires
pack-requires c =
    let same : c.map.result ≡ c.certify.result = search rules in
    rw same (certified_low _ _ c.certify.result c.certify.ensures)

pub returns : goal.returns
returns c =
    let same : c.map.result ≡ c.certify.result = search rules in
    record {
      answer = c.certify.result;
      low = certified_low _ _ c.certify.result c.certify.ensures;
      is = c.pack.ensures ∙ ap packed same;
      promises = c.certify.ensures;
    }

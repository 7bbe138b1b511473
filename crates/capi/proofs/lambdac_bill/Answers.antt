-- The promise of the bill, of the answer that is packed.
-- Assumes nothing.
use Rattle.std.proofs.Common.{◌≡◌, ap, ◌∙◌, rules}
use Rattle.capi.specs.Packed.{packed}
use Rattle.capi.proofs.Packed.{billed_low}
use Rattle.capi.proofs.lambdac_bill.Goals as goal

pub pack-requires : goal.pack-requires
pack-requires c =
    let same : c.map.result ≡ c.bill.result = search rules in
    rw same (billed_low _ _ _ c.bill.result c.bill.ensures)

pub returns : goal.returns
returns c =
    let same : c.map.result ≡ c.bill.result = search rules in
    record {
      answer = c.bill.result;
      low = billed_low _ _ _ c.bill.result c.bill.ensures;
      is = c.pack.ensures ∙ ap packed same;
      promises = c.bill.ensures;
    }

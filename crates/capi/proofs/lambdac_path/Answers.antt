-- The path call's promise, of the answer that is packed.
-- Assumes nothing.
use Rattle.std.proofs.Common.{◌≡◌, ap, ◌∙◌, rules, arith}
use Rattle.capi.specs.Packed.{packed}
use Rattle.capi.proofs.Packed.{traced_low}
use Rattle.capi.proofs.lambdac_path.Goals as goal

pub pack-requires : goal.pack-requires
pack-requires c =
    let same : c.map.result ≡ c.path.result = search rules in
    rw same (traced_low _ _ _ (omega arith) c.path.result c.path.ensures)

pub returns : goal.returns
returns c =
    let same : c.map.result ≡ c.path.result = search rules in
    record {
      answer = c.path.result;
      low = traced_low _ _ _ (omega arith) c.path.result c.path.ensures;
      is = c.pack.ensures ∙ ap packed same;
      promises = c.path.ensures;
    }

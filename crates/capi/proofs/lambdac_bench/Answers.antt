-- The bench call's promise, of the answer that is packed.
-- Assumes nothing.
use Rattle.std.proofs.Common.{◌≡◌, ap, ◌∙◌, rules}
use Rattle.capi.specs.Packed.{packed}
use Rattle.capi.proofs.Packed.{benched_low}
use Rattle.machine.specs.Promise.{answer_of}
use Rattle.capi.proofs.lambdac_bench.Goals as goal

pub pack-requires : goal.pack-requires
pack-requires c =
    let same : c.map.result ≡ answer_of c.bench.result = search rules in
    rw same (benched_low _ _ _ (answer_of c.bench.result) c.bench.ensures)

pub returns : goal.returns
returns c =
    let same : c.map.result ≡ answer_of c.bench.result = search rules in
    record {
      answer = answer_of c.bench.result;
      low = benched_low _ _ _ (answer_of c.bench.result) c.bench.ensures;
      is = c.pack.ensures ∙ ap packed same;
      promises = c.bench.ensures;
    }

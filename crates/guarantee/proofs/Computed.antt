-- The promise of a certifying call that accepts, from what is computed of its table: that it passes, its rounds, its
-- facts and their bytes.
-- Assumes nothing.
use mathlib.Core.Path.{◌≡◌, refl, sym, ap, ◌∙◌, subst}
use mathlib.Core.List.{List, [], ◌∷◌, ◌++◌, flat_map}
use Prim.Native.Nat.{ℕ, ◌*◌, ◌≤◌, ◌<◌}
use lib.ListN.{length, drop, get_or}
use Rattle.std.specs.Prelude.{Ok}
use Rattle.net.specs.Net.{list_below, after, Counts}
use Rattle.net.proofs.Lists.{get_or_list_below}
use Rattle.circuit.specs.Refusal.{passed}
use Rattle.circuit.specs.Circuit.{Circuit, graph, NoLoop}
use Rattle.circuit.proofs.Tables.{Inside, circuit_length, circuit_inside}
use Rattle.fact.specs.declared.Fact.{Fact}
use Rattle.fact.specs.declared.Fact.TheVariants.{Open}
use Rattle.fact.specs.Fact.{fact_bytes, fact_at}
use Rattle.fact.specs.Rule.{rule}
use Rattle.fact.specs.Certificate as definition
use Rattle.fact.specs.Certificate.{initial_store, registers, rounds}
use Rattle.fact.proofs.Certificate.{least_agree, certificate_least, rounds_counted, rounds_few}
use Rattle.call.specs.Call.{Lent, left, output_of, size, circuit_of, checked, scratch_cleared}
use Rattle.call.proofs.Parts.{table_checked}
use Rattle.certificate.specs.Promise.{certifying, Certifies}

pub certified_computed : (l : Lent) (cells : List ℕ) (k : ℕ) → checked certifying l ≡ passed → NoLoop (circuit_of l)
    → rounds (circuit_of l) ≡ k
    → list_below (fact_at cells) (size l) ≡ list_below (definition.certificate (circuit_of l)) (size l)
    → cells ≡ flat_map fact_bytes
    (list_below (after (graph (circuit_of l)) (rule (circuit_of l)) k (initial_store (circuit_of l))) (size l))
    ++ drop (size l * 8) (output_of l.outputs)
    → Certifies l (left cells (scratch_cleared certifying l)) (Ok k)
certified_computed l cells k ok none count facts bytes =
    record {
      past = record { passed = ok; no_loop = none; scratch = refl };
      later = refl;
      accepts = record {
        counts = subst (λ (j : ℕ). Counts (graph c) (rule c) (initial_store c) j) count (rounds_counted c inside none);
        few = subst (λ (j : ℕ). j ≤ 2 * registers c) count (rounds_few c inside none);
        certificate = ap (λ (b : List ℕ). b ∷ []) bytes;
        least = least_agree c inside (definition.certificate c) (fact_at cells) same (certificate_least c inside none);
      };
    }
  where
    c : Circuit
    c = circuit_of l

    inside : Inside c
    inside = circuit_inside l.table (size l) (table_checked certifying l ok).valid

    same : (v : ℕ) → v < length c → fact_at cells v ≡ definition.certificate c v
    same v below =
        let variable : v < size l = rw (circuit_length l.table (size l)) at below in
        sym (get_or_list_below (fact_at cells) (size l) v Open variable)
        ∙ ap (λ (fs : List Fact). get_or fs v Open) facts
        ∙ get_or_list_below (definition.certificate c) (size l) v Open variable

-- What an accepted certifying call's promise gives of its table: its records use its variables alone, and the bytes that
-- are written hold the facts of its certificate.
-- Assumes nothing.
use mathlib.Core.Path.{◌≡◌, refl, ap, ◌∙◌}
use mathlib.Core.List.{List}
use Prim.Native.Nat.{ℕ, ◌+◌, ◌*◌, ◌/◌, ◌<◌}
use lib.ListN.{length, drop, get_or}
use Rattle.std.specs.Prelude.{Ok}
use Rattle.net.specs.Net.{list_below, after, stopped}
use Rattle.net.proofs.Lists.{length_list_below, get_or_list_below}
use Rattle.net.proofs.Rounds.{counts_unique}
use Rattle.circuit.specs.Circuit.{Circuit, circuit, graph}
use Rattle.circuit.proofs.Tables.{Inside, circuit_inside}
use Rattle.fact.specs.declared.Fact.{Fact}
use Rattle.fact.specs.declared.Fact.TheVariants.{Open}
use Rattle.fact.specs.Fact.{fact_bytes, fact_at}
use Rattle.fact.specs.Rule.{rule}
use Rattle.fact.specs.Certificate.{initial_store, rounds, certificate}
use Rattle.fact.proofs.Certificate.{least_unique, certificate_least, rounds_counted}
use Rattle.call.specs.Call.{lent, left, output_of}
use Rattle.call.proofs.Parts.{table_checked}
use Rattle.certificate.specs.Promise.{certifying, Certifies}
use Rattle.trim.proofs.Bytes.{part_at}

module _ {t cells scratch cells' scratch' : List ℕ} {k : ℕ}
    (p : Certifies (lent t cells scratch) (left cells' scratch') (Ok k)) where
  abbrev n : ℕ
  n = length t / 16

  abbrev c : Circuit
  c = circuit t n

  -- its records use its variables alone
  pub certified_inside : Inside c
  certified_inside =
      circuit_inside t n (table_checked certifying (lent t cells scratch) p.past.passed).valid

  -- what is written are the certificate's facts
  pub facts_certified : (v : ℕ) → v < length c → fact_at cells' v ≡ certificate c v
  facts_certified =
      least_unique c (fact_at cells') (certificate c) p.accepts.least
      (certificate_least c certified_inside p.past.no_loop)

  -- the 8 bytes of a variable are those of its fact
  pub fact_written : (v m : ℕ) → v < length t / 16 → m < 8
      → get_or cells' (v * 8 + m) 0 ≡ get_or (fact_bytes (certificate (circuit t (length t / 16)) v)) m 0
  unfolding certificate stopped rounds
  fact_written v m below h =
      ap (λ (o : List (List ℕ)). get_or (output_of o) (v * 8 + m) 0) p.accepts.certificate
      ∙ part_at fact_bytes 8 (λ f. refl) (list_below store n) (drop (n * 8) cells) v m Open
      (rw (length_list_below store n) below) h
      ∙ ap (λ (f : Fact). get_or (fact_bytes f) m 0) (get_or_list_below store n v Open below ∙ ap after_rounds counted)
    where
      after_rounds : ℕ → Fact
      after_rounds j = after (graph c) (rule c) j (initial_store c) v

      store : ℕ → Fact
      store = after (graph c) (rule c) k (initial_store c)

      counted : k ≡ rounds c
      counted =
          counts_unique (graph c) (rule c) (initial_store c) k (rounds c) p.accepts.counts
          (rounds_counted c certified_inside p.past.no_loop)

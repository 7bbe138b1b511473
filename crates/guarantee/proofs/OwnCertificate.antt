-- A table's own certificate is not turned away: a trimming call by the bytes that a certifying call wrote for the table
-- is accepted, where the kept variables are the table's and as much is lent as is asked.
-- Assumes nothing.
use mathlib.Core.Path.{◌≡◌, refl, ap, ◌∙◌}
use mathlib.Core.List.{List, flat_map}
use Prim.Native.Nat.{ℕ, ◌+◌, ◌*◌, ◌/◌, ◌≤◌, ◌<◌}
use native.Mathlib.Omega.{arith}
use borrow.Author.Tests.{le-ltb}
use lib.Dec.{lit<}
use lib.ListN.{length, take, drop, get_or, length-append}
use lib.Seq.{get_or-take, length-take-le}
use Rattle.std.specs.Prelude.{Ok}
use Rattle.net.specs.Net.{list_below, after}
use Rattle.net.proofs.Lists.{length_list_below}
use Rattle.circuit.specs.Refusal.{passed}
use Rattle.circuit.specs.Record.{width}
use Rattle.circuit.specs.Circuit.{Circuit, circuit, record_of, graph}
use Rattle.circuit.specs.Checks.{check_length, Checked}
use Rattle.circuit.proofs.Passing.{then_passed}
use Rattle.circuit.proofs.Tables.{circuit_length}
use Rattle.fact.specs.declared.Fact.{Fact}
use Rattle.fact.specs.declared.Fact.TheVariants.{Always, Open, Marked}
use Rattle.fact.specs.Fact.{fact_byte, fact_bytes, fact_at}
use Rattle.fact.specs.Rule.{rule}
use Rattle.fact.specs.Certificate.{initial_store, certificate}
use Rattle.call.specs.Call.{Left, Answer, lent, left, output_of, checked}
use Rattle.call.proofs.Parts.{table_checked}
use Rattle.certificate.specs.Promise.{certifying, Certifies}
use Rattle.trim.specs.Ready.{FactFits}
use Rattle.trim.specs.Promise as trim-call
use Rattle.trim.specs.Promise.{trimming, CallTrims}
use Rattle.trim.proofs.Passing.{trim_passes}
use Rattle.trim.proofs.Validity.{circuit_valid}
use Rattle.trim.proofs.Own.{certificate_fits}
use Rattle.trim.proofs.Bytes.{parts_length}
use Rattle.guarantee.proofs.Certified.{fact_written}
use Rattle.guarantee.proofs.Passing.{call_accepted}
use Rattle.guarantee.proofs.Trimming.{facts_own}

byte_range : (f : Fact) → (1 ≤ fact_byte f) × (fact_byte f ≤ 3)
byte_range (Always n) = (omega arith, omega arith)
byte_range Open = (omega arith, omega arith)
byte_range Marked = (omega arith, omega arith)

module _ {t cells scratch cells' scratch' : List ℕ} {rounds : ℕ}
    (p : Certifies (lent t cells scratch) (left cells' scratch') (Ok rounds)) where
  abbrev n : ℕ
  n = length t / 16

  abbrev c : Circuit
  c = circuit t n

  -- its own bytes
  abbrev own : List ℕ
  own = take (n * 8) cells'

  table : Checked t n
  table = table_checked certifying (lent t cells scratch) p.past.passed

  own_length : length own ≡ n * 8
  own_length =
      let store = list_below (after (graph c) (rule c) rounds (initial_store c)) n in
      length-take-le (n * 8) cells'
      (omega (
        arith,
        ap (λ (o : List (List ℕ)). length (output_of o)) p.accepts.certificate,
        length-append (flat_map fact_bytes store) (drop (n * 8) cells),
        parts_length fact_bytes 8 (λ f. refl) store,
        length_list_below (after (graph c) (rule c) rounds (initial_store c)) n,
      ))

  own_byte : (v : ℕ) → v < n → get_or own (v * 8) 0 ≡ fact_byte (certificate c v)
  own_byte v below =
      let place : v * 8 ≡ v * 8 + 0 = omega arith in
      get_or-take (n * 8) cells' (v * 8) 0 (omega arith) ∙ ap (λ (i : ℕ). get_or cells' i 0) place
      ∙ fact_written p v 0 below (lit< tt)

  own_fits : (v : ℕ) → v < n → FactFits (width (record_of c v)) (fact_at own v)
  own_fits v below =
      let variable : v < length c = rw (circuit_length t n) below in
      rw (facts_own p v variable)
      (certificate_fits c (circuit_valid t n table.valid) p.past.no_loop v variable)

  module _ (kept first second scratch₁ : List ℕ) (below : (i : ℕ) → i < length kept → get_or kept i 0 < length t / 16)
      (long : length t ≤ length first) (many : length t / 16 ≤ length second)
      (room : length t / 16 * 4 ≤ length scratch₁) where
    passes : checked (trimming own kept) (trim-call.lent t first second scratch₁) ≡ passed
    passes =
        rw ((then_passed (check_length (length t)) _ p.past.passed).0, le-ltb (length scratch₁) (n * 4) room)
        table.valid

    -- a trimming call by the certificate is accepted
    pub own_accepted : (e : Left) (r : Answer)
        → CallTrims (take (length t / 16 * 8) cells') kept (trim-call.lent t first second scratch₁) e r
        → (k : ℕ) × (r ≡ Ok k)
    own_accepted e r q =
        call_accepted (trimming own kept) (trim-call.lent t first second scratch₁) e r passes p.past.no_loop
        (trim_passes t own kept (length first) (length second) below long many own_length
        (λ v h. let (least, most) = byte_range (certificate c v) in
        (rw (own_byte v h) least, rw (own_byte v h) most, own_fits v h))) q

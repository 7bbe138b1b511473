-- The search from its first variable on: as it begins, that it goes on until a secret input stands at the head, and
-- that what stands there then is the end of the path.
-- Assumes nothing.
use mathlib.Core.Path.{◌≡◌, sym, ap, ◌∙◌, subst}
use mathlib.Core.Bool.{Bool, true, false, not}
use mathlib.Core.List.{List}
use Prim.Native.Nat.{ℕ, ◌+◌, ◌-◌, ◌*◌, ◌<◌}
use native.Mathlib.Nat.{le_refl}
use native.Mathlib.Omega.{arith}
use lib.Dec.{T}
use lib.ListN.{length, get_or, set, length-set}
use lib.Seq.{get_or-set_same, get_or-set_other}
use Rattle.net.proofs.Bools.{T_of, not_both}
use Rattle.net.proofs.Cases.{by_le}
use Rattle.buffer.specs.Kept.{KeptOutside}
use Rattle.buffer.proofs.Filled.{outside_none, outside_set}
use Rattle.circuit.specs.declared.record.Record.{Record}
use Rattle.circuit.specs.Record.{input_of}
use Rattle.circuit.specs.Reading.{fields_at, decode}
use Rattle.circuit.specs.Circuit.{Circuit, record_of}
use Rattle.circuit.specs.declared.table.Table.{Table}
use Rattle.circuit.specs.Tables.{circuit_of}
use Rattle.circuit.proofs.Tables.{Inside, circuit_length, circuit_record, circuit_inside}
use Rattle.fact.specs.declared.Fact.TheVariants.{Marked}
use Rattle.fact.specs.TwoRuns.{is_secret}
use Rattle.fact.proofs.Certificate.{certificate_least}
use Rattle.path.specs.Row.{uses_under, secret, Row, PathOf}
use Rattle.path.specs.Search.{facts, FactsStand, queued, parent, found, Searching, Found, Falls, Depth, chain}
use Rattle.path.proofs.Marked.{member_some, marked_has_row}
use Rattle.path.proofs.Queues.{queue_begun, queue_few}
use Rattle.path.proofs.Chain.{row_left, chain_path}
use Rattle.path.proofs.Visits.{facts_kept}

-- the search from v under way, in a scratch that was `entry` as it began
pub record Seeking (t : Table) (v : ℕ) (entry s : List ℕ) (head tail : ℕ) : Type 0 where
  pub searching : Searching t s head tail 0
  pub begins : queued t.records s 0 ≡ v
  pub kept : KeptOutside (t.records * 3) (t.records * 6) entry s

-- ---- as it begins

module _ {t : Table} {v : ℕ} {s : List ℕ} (stand : FactsStand t s) (v_below : v < t.records)
    (marked : facts t v ≡ Marked) (zeros : (u : ℕ) → u < t.records → found t.records s u ≡ 0) where
  abbrev first : List ℕ
  first = set s (t.records * 3) v

  abbrev begun : List ℕ
  begun = set first (t.records * 5 + v) 1

  pub begun_kept : KeptOutside (t.records * 3) (t.records * 6) s begun
  begun_kept =
      outside_set (t.records * 5 + v) 1 (omega arith) (omega arith)
      (outside_set (t.records * 3) v (omega arith) (omega arith) (outside_none (t.records * 3) (t.records * 6) s))

  begun_first : queued t.records begun 0 ≡ v
  begun_first =
      let place : t.records * 3 + 0 ≡ t.records * 3 = omega arith in
      ap (λ (i : ℕ). get_or begun i 0) place
      ∙ get_or-set_other first (t.records * 5 + v) (t.records * 3) 1 0 (λ e. omega arith)
      ∙ get_or-set_same s (t.records * 3) v 0 (omega (arith, stand.lent))

  pub seeking_begun : Seeking t v begun begun 0 1
  seeking_begun =
      record {
        searching = record {
          facts_stand = facts_kept stand (le_refl _) begun_kept;
          queue =
              queue_begun v_below marked begun_first zeros
              (λ u ne.
              get_or-set_other first (t.records * 5 + v) (t.records * 5 + u) 1 0 (λ e. ne (omega arith))
              ∙ get_or-set_other s (t.records * 3) (t.records * 5 + u) v 0 (λ e. omega arith))
              (get_or-set_same first (t.records * 5 + v) 1 0 (simp length-set (omega (arith, stand.lent))));
        };
        begins = begun_first;
        kept = outside_none (t.records * 3) (t.records * 6) begun;
      }

-- ---- as it goes on

module _ {t : Table} {s : List ℕ} {head tail : ℕ} (search : Searching t s head tail 0) where
  abbrev c : Circuit
  c = circuit_of t

  size : t.records ≡ length c
  size = sym (circuit_length t.bytes.now t.records)

  inside : Inside c
  inside = circuit_inside t.bytes.now t.records t.checked.valid

  -- every variable of the queue has a row
  queued_row : (i : ℕ) → i < tail → (row : List ℕ) × Row c (facts t) (queued t.records s i) row
  queued_row i h =
      let (below, is, at) = search.queue.variables i h in
      marked_has_row c inside (facts t) (certificate_least c inside search.facts_stand.no_loop) (queued t.records s i)
      (omega (arith, size)) is

  -- so the search is not at the end of the queue
  pub search_left : head < tail
  search_left = let (row, r) = queued_row 0 search.queue.some in row_left size search.queue r

  pub head_below : queued t.records s head < t.records
  head_below = (search.queue.variables head search_left).0

  pub head_room : head < t.records
  head_room = omega (arith, search_left, queue_few search.queue)

  -- what is no secret input uses something
  pub head_uses : {u : ℕ} → u ≡ queued t.records s head → T (not (secret c u))
      → 0 < length (uses_under (facts t) (record_of c u))
  head_uses {u} here open-head =
      let (row, r) = queued_row head search_left in
      by_le (length row) 1
      (λ short.
      let last : length row - 1 ≡ 0 = omega (arith, r.some) in
      not_both (secret c u)
      (subst (λ (x : ℕ). T (secret c x)) (ap (λ (i : ℕ). get_or row i 0) last ∙ r.first ∙ sym here) r.last) open-head)
      (λ long.
      subst (λ (x : ℕ). 0 < length (uses_under (facts t) (record_of c x))) (r.first ∙ sym here)
      (member_some _ _ (r.next 0 (omega arith))))

  -- whether it is a secret input, by its record
  module _ {u : ℕ} {is : Bool} (here : u ≡ queued t.records s head)
      (read : is ≡ is_secret (input_of (decode (fields_at t.bytes.now (u * 16))))) where
    head_read : is ≡ secret c (queued t.records s head)
    head_read =
        read
        ∙ ap (λ (r : Record). is_secret (input_of r))
        (sym (circuit_record t.bytes.now t.records u (omega (arith, head_below))))
        ∙ ap (secret c) here

    pub head_secret : is ≡ true → T (secret c (queued t.records s head))
    head_secret e = T_of _ (sym head_read ∙ e)

    pub head_open : is ≡ false → T (not (secret c u))
    head_open e = rw (here, ← head_read, e) tt

-- a secret input at the head ends it
pub seeking_found : {t : Table} {v : ℕ} {entry s : List ℕ} {head tail : ℕ} → Seeking t v entry s head tail
    → T (secret (circuit_of t) (queued t.records s head)) → Found t v s head
seeking_found {tail = tail} seek end =
    record {
      tail = tail;
      searching = seek.searching;
      begins = seek.begins;
      within = search_left seek.searching;
      is_secret_lem = end;
    }

-- ---- what is found

module _ {t : Table} {v : ℕ} {s : List ℕ} {i : ℕ} (found_at : Found t v s i) where
  pub found_room : i < t.records
  found_room = head_room found_at.searching

  pub found_falls : Falls t.records s i
  found_falls j some most = (found_at.searching.queue.linked j some (omega (arith, found_at.within))).0

  -- the way to it is the path
  pub found_path : {d : ℕ} → Depth (parent t.records s) i d
      → PathOf (circuit_of t) (facts t) v (chain (queued t.records s) (parent t.records s) d i)
  found_path {d} deep =
      subst (λ (x : ℕ). PathOf (circuit_of t) (facts t) x (chain (queued t.records s) (parent t.records s) d i))
      found_at.begins
      (chain_path (size found_at.searching) found_at.searching.queue found_at.within found_at.is_secret_lem
      deep)

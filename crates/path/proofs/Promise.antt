-- From what the parts of the path call give to its promise; that the promise fixes the row; and what its answers can
-- be.
-- Assumes nothing.
use mathlib.Core.Path.{◌≡◌, refl, sym, ap, ap₂, ◌∙◌}
use mathlib.Core.Logic.{◌⊎◌, inr}
use mathlib.Core.Bool.{Bool, true, false, not, ◌&&◌}
use mathlib.Core.List.{List, [], ◌∷◌, ◌++◌}
use Prim.Native.Nat.{ℕ, ◌+◌, ◌-◌, ◌*◌, ◌≤◌, ◌<◌}
use native.Mathlib.Omega.{arith}
use borrow.Author.Tests.{ltb-true}
use lib.Dec.{eqb, ltb}
use lib.ListN.{length, get_or, take, drop, replicate, length-replicate, get_or-replicate, get_or-append}
use lib.Seq.{get_or-append-add}
use Rattle.buffer.specs.Kept.{Kept}
use Rattle.buffer.specs.Store.{Stands}
use Rattle.circuit.specs.declared.refusal.Ground.TheVariants.{NotMarked}
use Rattle.std.specs.Prelude.{Ok, Err}
use Rattle.circuit.specs.Refusal as check
use Rattle.circuit.specs.Refusal.{ground_number, refuse}
use Rattle.circuit.specs.Circuit.{Circuit, circuit}
use Rattle.circuit.specs.declared.table.Table.{Table}
use Rattle.circuit.proofs.Places.{Refusals, refused_finds, refuse_refusals}
use Rattle.circuit.proofs.Tables.{circuit_length, circuit_inside}
use Rattle.fact.specs.declared.Fact.{Fact}
use Rattle.fact.specs.declared.Fact.TheVariants.{Always, Open, Marked}
use Rattle.fact.specs.Fact.{fact_byte}
use Rattle.fact.specs.Certificate.{certificate}
use Rattle.fact.proofs.Certificate.{certificate_least}
use Rattle.schedule.specs.Schedule.{register_list, IsOrder}
use Rattle.schedule.proofs.Orders.{ordered_no_loop}
use Rattle.engine.specs.Ready.{Ready}
use Rattle.call.specs.Call.{Lent, Left, Answer, lent, left, output_of, size, circuit_of, checked, part, AcceptedWith}
use Rattle.call.proofs.Parts.{table_checked, past_eleven}
use Rattle.call.proofs.Contents.{BothLoops, contents_fixed}
use Rattle.analysis.specs.Cells.{words}
use Rattle.analysis.proofs.Behind.{ordered_words}
use Rattle.path.specs.Row.{is_marked}
use Rattle.path.specs.Search.{facts, FactsStand, queued, parent, found, Found, Depth, chain}
use Rattle.path.specs.Promise.{room, check_marked, Traces, tracing, CallTraces}
use Rattle.path.specs.Tracing.{WritesPath, TracesMarked}
use Rattle.path.proofs.Rows.{path_unique}
use Rattle.path.proofs.Chain.{chain_length}
use Rattle.path.proofs.Visits.{byte_at}
use Rattle.path.proofs.Seeking.{found_path}

-- the way to what was found is the path, and it is written
pub path_written : {t : Table} {v : ℕ} {s : List ℕ} {i d : ℕ} {entry exit : List ℕ} → Found t v s i
    → Depth (parent t.records s) i d → d < t.records
    → exit ≡ chain (queued t.records s) (parent t.records s) d i ++ drop (d + 1) entry
    → WritesPath (circuit t.bytes.now t.records) t.records v entry exit (d + 1)
path_written {t} {s = s} {i} {d} f deep fits written =
    record {
      row = chain (queued t.records s) (parent t.records s) d i;
      path = found_path f deep;
      row_length = chain_length (queued t.records s) (parent t.records s) d i;
      fits = omega arith;
      written = written;
    }

-- ---- the facts, and ground 23

module _ {t : Table} {s s' : List ℕ} {wires registers : ℕ}
    (r : Ready words room t.bytes.now t.records s wires registers s) where
  pub facts_stood : Stands words 0 t.records (facts t) s' → Kept (t.records * 5) s s' → FactsStand t s'
  facts_stood stands kept =
      record {
        no_loop = ordered_no_loop (circuit t.bytes.now t.records) (take wires s) r.wired.order;
        lent = omega (arith, r.scratch_long, kept.long);
        stand = stands;
      }

byte_marked : (f : Fact) → eqb (fact_byte f) 3 ≡ is_marked f
byte_marked (Always n) = refl
byte_marked Open = refl
byte_marked Marked = refl

-- tests that agree where another passes
and_same : (a b b' : Bool) → (a ≡ true → b ≡ b') → (a && b) ≡ (a && b')
and_same true b b' h = h refl
and_same false b b' h = refl

module _ {t : Table} {s : List ℕ} {is : Bool} (stand : FactsStand t s) (v : ℕ)
    (e : is ≡ (ltb v t.records && eqb (get_or s (v * 3) 0) 3)) where
  told : is ≡ (ltb v (length (circuit t.bytes.now t.records)) && is_marked (facts t v))
  told =
      e
      ∙ and_same (ltb v t.records) (eqb (get_or s (v * 3) 0) 3) (is_marked (facts t v))
      (λ h. ap (λ (x : ℕ). eqb x 3) (byte_at stand (ltb-true v t.records h)) ∙ byte_marked (facts t v))
      ∙ ap (λ (k : ℕ). ltb v k && is_marked (facts t v)) (sym (circuit_length t.bytes.now t.records))

  pub unmarked_refused : is ≡ false → check_marked (circuit t.bytes.now t.records) v ≡ check.refused NotMarked v
  unmarked_refused h = ap (λ (b : Bool). refuse NotMarked v (not b) check.passed) (sym told ∙ h)

-- ---- the scratch

-- behind an order stand zeros, up to the end of the part
order_zero : {c : Circuit} {part : ℕ} {entry s : List ℕ} {wires registers : ℕ}
    → IsOrder c part entry s wires registers → (i : ℕ) → wires + registers ≤ i → i < part → get_or s i 0 ≡ 0
order_zero {c} {part} {entry} {wires = wires} {registers} o i low high =
    let zeros : List ℕ = replicate (part - (wires + registers)) 0 in
    let behind = zeros ++ drop part entry in
    let j = i - wires in
    let k = i - wires - registers in
    let at_j : i ≡ length o.order + j = omega (arith, o.order_length) in
    let at-k : j ≡ length (register_list c) + k = omega (arith, o.registers_length) in
    ap (λ (l : List ℕ). get_or l i 0) o.scratch
    ∙ ap (λ (x : ℕ). get_or (o.order ++ (register_list c ++ behind)) x 0) at_j
    ∙ get_or-append-add o.order (register_list c ++ behind) j 0
    ∙ ap (λ (x : ℕ). get_or (register_list c ++ behind) x 0) at-k
    ∙ get_or-append-add (register_list c) behind k 0
    ∙ get_or-append zeros (drop part entry) 0 k
    (omega (arith, length-replicate {A = ℕ} (part - (wires + registers)) 0))
    ∙ get_or-replicate (part - (wires + registers)) k 0 0 (omega arith)

-- ---- the promise

module _ (v : ℕ) (t row scratch : List ℕ) (ok : checked (tracing v) (lent t row scratch) ≡ check.passed) where
  abbrev l : Lent
  l = lent t row scratch

  abbrev c : Circuit
  c = circuit_of l

  module _ {ordered : List ℕ} {wires registers : ℕ}
      (o : IsOrder c (part (tracing v) l) scratch ordered wires registers) where
    pub ready : Ready words room t (size l) ordered wires registers ordered
    ready = ordered_words (table_checked (tracing v) l ok) o

    pub none_found : (u : ℕ) → u < size l → found (size l) ordered u ≡ 0
    none_found u h = order_zero o (size l * 5 + u) (omega (arith, o.fits, circuit_length t (size l))) (omega arith)

    pub traced : (row' : List ℕ) {scratch' : List ℕ} (r : Answer) → TracesMarked c (size l) v row row' r
        → scratch' ≡ replicate (part (tracing v) l) 0 ++ drop (part (tracing v) l) ordered
        → CallTraces v l (left row' scratch') r
    traced row' (Ok k) (passes, writes) cleared =
        let past = past_eleven (tracing v) l ok (omega arith) o cleared in
        record {
          past = past;
          later = passes;
          accepts = record {
            row = writes.row;
            least =
                certificate_least c (circuit_inside t (size l) (table_checked (tracing v) l ok).valid)
                past.no_loop;
            path = writes.path;
            row_length = writes.row_length;
            fits = writes.fits;
            written = ap (λ (x : List ℕ). x ∷ []) writes.written;
          };
        }
    traced row' (Err r) (refused, same) cleared =
        inr (inr (record {
          past = past_eleven (tracing v) l ok (omega arith) o cleared;
          first = refused_finds refused;
          outputs = ap (λ (x : List ℕ). x ∷ []) same;
        }))

-- ---- demand 1

-- two rows that a call may show of what is lent are the same
traces_determined : (v : ℕ) (l : Lent) (o o' : List (List ℕ)) (k k' : ℕ) → Traces v l o k → Traces v l o' k'
    → (k ≡ k') × (o ≡ o')
traces_determined v l o o' k k' p q =
    let same : p.row ≡ q.row = path_unique p.path q.path in
    let long : k ≡ k' = sym p.row_length ∙ ap length same ∙ q.row_length in (
      long,
      p.written
          ∙ ap₂ (λ (row : List ℕ) (j : ℕ). (row ++ drop j (output_of l.outputs)) ∷ []) same long
          ∙ sym q.written,
    )

-- two calls on what is lent alike answer alike and leave the same, but for which loop is shown
pub path_fixed : (v : ℕ) (l : Lent) (e e' : Left) (r r' : Answer) → CallTraces v l e r → CallTraces v l e' r'
    → ((r ≡ r') × (e ≡ e')) ⊎ BothLoops (tracing v) l e e' r r'
path_fixed v l = contents_fixed (tracing v) l (traces_determined v l)

-- ---- what its answers can be

-- after ground 11 only 23 is found, at the number given
pub path_refusals : (v : ℕ) (l : Lent) → Refusals (λ g place. (ground_number g ≡ 23) × (place ≡ v)) ((tracing v).later l)
path_refusals v l =
    refuse_refusals (λ g place. (ground_number g ≡ 23) × (place ≡ v)) NotMarked v
    (not (ltb v (length (circuit_of l)) && is_marked (certificate (circuit_of l) v))) check.passed (refl, refl) (λ _. tt)

module _ {v : ℕ} {l : Lent} {e : Left} {k : ℕ} (p : AcceptedWith (tracing v) l e k) where
  -- a row has at least one variable
  pub path_some : 1 ≤ k
  path_some = omega (arith, p.accepts.path.is_row.some, p.accepts.row_length)

  pub path_short : k ≤ 4096
  path_short = omega (arith, p.accepts.fits, (table_checked (tracing v) l p.past.passed).small)

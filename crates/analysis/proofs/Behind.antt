-- What lies behind the facts of a scratch, and that a table's order stands there once it is copied, as the schedule leaves
-- it in front.
-- Assumes nothing.
use mathlib.Core.Path.{◌≡◌, sym, ◌∙◌, subst}
use mathlib.Core.List.{List}
use Prim.Native.Nat.{ℕ, ◌+◌, ◌*◌, ◌≤◌, ◌<◌}
use native.Mathlib.Omega.{arith}
use lib.ListN.{length, get_or, take, drop, length-drop}
use lib.Seq.{ext_get_or, get_or-take, get_or-drop, length-take-le}
use Rattle.circuit.specs.Circuit.{circuit}
use Rattle.circuit.specs.Checks.{Checked}
use Rattle.circuit.proofs.Tables.{circuit_length}
use Rattle.schedule.specs.Schedule.{Ordered, IsOrder}
use Rattle.schedule.proofs.Orders.{order_room}
use Rattle.engine.specs.Ready.{Ready}
use Rattle.engine.proofs.Standing.{ordered_ready}
use Rattle.analysis.specs.Cells.{words, room}

-- ---- the order behind the facts

-- the order was copied from the front to behind the facts
module _ {t : List ℕ} {n wires registers : ℕ} {s : List ℕ} (s' : List ℕ)
    (r : Ready words room t n s wires registers s) (long : length s' ≡ length s)
    (copied : (i : ℕ) → i < wires + registers → get_or s' (n * 3 + i) 0 ≡ get_or s i 0) where
  abbrev behind : List ℕ
  behind = drop (n * 3) s'

  behind_length : length behind + n * 3 ≡ length s
  behind_length = omega (arith, r.scratch_long, long, length-drop (n * 3) s')

  behind_at : (i : ℕ) → i < wires + registers → get_or behind i 0 ≡ get_or s i 0
  behind_at i h = get_or-drop (n * 3) s' i 0 ∙ copied i h

  few : wires ≤ length behind
  few = omega (arith, behind_length, r.fits, r.scratch_long)

  same_wires : take wires s ≡ take wires behind
  same_wires =
      ext_get_or 0 (take wires s) (take wires behind)
      (length-take-le wires s r.wired.few ∙ sym (length-take-le wires behind few))
      (λ i l.
      let k : i < wires = omega (arith, length-take-le wires s r.wired.few) in
      get_or-take wires s i 0 k ∙ sym (get_or-take wires behind i 0 k ∙ behind_at i (omega arith)))

  pub ready_behind : {facts : List ℕ} → length facts ≡ n * 3 → Ready words 2 t n behind wires registers facts
  ready_behind e =
      record {
        wired = record {
          store = record { table = r.wired.store.table; lent = omega arith };
          few = few;
          order = subst (λ (l : List ℕ). Ordered (circuit t n) l) same_wires r.wired.order;
        };
        scratch_long = omega (arith, behind_length, r.scratch_long);
        fits = r.fits;
        all_registers = r.all_registers;
        listed = λ j l. behind_at (wires + j) (omega (arith, r.all_registers)) ∙ r.listed j l;
      }

-- ---- the schedule's order

-- what the schedule leaves of a checked table is what the facts are worked out from
pub ordered_words : {t : List ℕ} {n : ℕ} {entry ordered : List ℕ} {wires registers : ℕ} → Checked t n
    → IsOrder (circuit t n) (n * room) entry ordered wires registers
    → Ready words room t n ordered wires registers ordered
ordered_words {t} {n} table o =
    ordered_ready
    (record {
      table = table;
      lent = omega (arith, order_room o (omega (arith, o.fits, circuit_length t n)));
    })
    (omega arith) o

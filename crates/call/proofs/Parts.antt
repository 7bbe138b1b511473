-- From what the parts of a call give to its promise: a refusal of the checks, a loop or an order that the schedule
-- leaves.
-- Assumes nothing.
use mathlib.Core.Path.{◌≡◌, refl, sym, ap, ◌∙◌}
use mathlib.Core.Logic.{inl, inr}
use mathlib.Core.List.{List, ◌++◌}
use Prim.Native.Nat.{ℕ, ◌+◌, ◌-◌, ◌≤◌}
use native.Mathlib.Nat.{mul-le-mul_left, mul-one}
use native.Mathlib.Omega.{arith}
use lib.ListN.{length, drop, replicate}
use Rattle.std.specs.Prelude.{Err}
use Rattle.circuit.specs.declared.refusal.Refusal.{Refusal}
use Rattle.circuit.specs.Refusal.{ground_number}
use Rattle.circuit.specs.declared.refusal.Ground.TheVariants as grounds
use Rattle.circuit.specs.Refusal as check
use Rattle.circuit.specs.Checks.{Checked}
use Rattle.circuit.proofs.Passing.{AllLent, call_checked, call_outputs, call_scratch}
use Rattle.circuit.proofs.Places.{refused_finds}
use Rattle.circuit.proofs.Tables.{circuit_length}
use Rattle.schedule.specs.Schedule.{IsOrder, IsLoop}
use Rattle.schedule.proofs.Orders.{ordered_no_loop, order_past}
use Rattle.call.specs.Call.{Lent, Left, Call, size, circuit_of, asked, checked, part, PastEleven, Promises}

module _ (call : Call) (l : Lent) where
  -- a refusal on one of grounds 1 to 10, of a call that has touched nothing
  pub turned_down : {r : Refusal} → checked call l ≡ Err r
      → Promises call l (record { outputs = l.outputs; scratch = l.scratch }) (Err r)
  turned_down e = inl (record { first = refused_finds e; outputs = refl; scratch = refl })

  module _ (ok : checked call l ≡ check.passed) where
    pub table_checked : Checked l.table (size l)
    table_checked = call_checked l.table (asked call.asks l.outputs) _ ok

    pub outputs_lent : AllLent (size l) (asked call.asks l.outputs)
    outputs_lent = call_outputs l.table (asked call.asks l.outputs) _ ok

    pub scratch_lent : part call l ≤ length l.scratch
    scratch_lent = call_scratch l.table (asked call.asks l.outputs) _ ok

    -- a loop as the schedule refuses it and leaves it is one as every call shows it
    pub loop_shown : {scratch : List ℕ} {r : Refusal}
        → (r.reason ≡ grounds.Loop) × IsLoop (circuit_of l) (part call l) l.scratch scratch r.place
        → Promises call l (record { outputs = l.outputs; scratch = scratch }) (Err r)
    loop_shown (is, s) =
        inr (inl (
          ap ground_number is,
          record {
            passed = ok;
            row = s.row;
            loop = s.loop;
            lowest = s.lowest;
            row_length = s.row_length;
            outputs = refl;
            scratch =
                s.scratch
                ∙ ap (λ (k : ℕ). s.row ++ (replicate (part call l - k) 0 ++ drop (part call l) l.scratch))
                (sym s.row_length);
          },
        ))

    -- an order as the schedule leaves it shows that there is no loop, and clearing the part clears all of it
    pub past_eleven : {ordered : List ℕ} {wires registers : ℕ} {e : Left} → 1 ≤ call.room
        → IsOrder (circuit_of l) (part call l) l.scratch ordered wires registers
        → e.scratch ≡ replicate (part call l) 0 ++ drop (part call l) ordered → PastEleven call l e
    past_eleven {wires = wires} {registers} some o cleared =
        record {
          passed = ok;
          no_loop = ordered_no_loop (circuit_of l) o.order o.ordered;
          scratch = cleared ∙ ap (λ (rest : List ℕ). replicate (part call l) 0 ++ rest) (order_past o in_part);
        }
      where
        in_part : wires + registers ≤ part call l
        in_part =
            omega (
              arith,
              o.fits,
              circuit_length l.table (size l),
              mul-le-mul_left (size l) some,
              mul-one (size l),
            )

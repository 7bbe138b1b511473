-- The wires and registers of a plan; and that a schedule's order leaves a checked table ready.
-- Assumes nothing.
use mathlib.Core.Path.{◌≡◌, sym, subst}
use mathlib.Core.List.{List}
use Prim.Native.Nat.{ℕ, suc, ◌+◌, ◌*◌, ◌≤◌, ◌<◌}
use native.Mathlib.Nat.{mul-le-mul_left, mul-le-mul_right, mul-one, suc-mul}
use native.Mathlib.Omega.{arith}
use lib.ListN.{length, get_or}
use Rattle.net.specs.Net.{wire, register}
use Rattle.buffer.specs.Store.{Layout}
use Rattle.circuit.specs.Record.{role}
use Rattle.circuit.specs.Circuit.{circuit, record_of}
use Rattle.circuit.specs.declared.table.Table.{Table}
use Rattle.circuit.specs.Tables as tables
use Rattle.circuit.proofs.Tables.{circuit_length}
use Rattle.schedule.specs.Schedule.{register_list, Ordered, IsOrder}
use Rattle.schedule.proofs.Orders.{order_taken, order_listed, order_room}
use Rattle.schedule.proofs.Registers.{register_list_register}
use Rattle.engine.specs.declared.plan.Plan.{Plan}
use Rattle.engine.specs.Plans.{circuit_of}
use Rattle.engine.specs.Ready.{StoreLent, Evaluable, Ready}

-- the place of one of n values lies in a buffer that has room for them
pub placed : (each n v : ℕ) {m : ℕ} → v < n → n * each ≤ m → v * each + each ≤ m
placed each n v h room = omega (arith, mul-le-mul_right {m = suc v} {n = n} each h, suc-mul v each)

-- what stands at a place of an order is a wire
module _ (t : List ℕ) (n : ℕ) {order : List ℕ} (ordered : Ordered (circuit t n) order) {i v : ℕ} (h : i < length order)
    (e : v ≡ get_or order i 0) where
  pub ordered_below : v < n
  ordered_below = omega (arith, e, (ordered.wires i h).0, circuit_length t n)

  ordered_wire : role (record_of (circuit t n) v) ≡ wire
  ordered_wire = subst (λ (u : ℕ). role (record_of (circuit t n) u) ≡ wire) (sym e) (ordered.wires i h).1

-- it can be evaluated, from a store that has room
module _ (t : Table) {order : List ℕ} (ordered : Ordered (tables.circuit_of t) order) {i v : ℕ} (h : i < length order)
    (e : v ≡ get_or order i 0) where
  pub ordered_evaluable : {A : Type 0} {L : Layout A} {cells : List ℕ} → t.records * L.each ≤ length cells
      → Evaluable L wire t.bytes.now t.records cells v
  ordered_evaluable room =
      record {
        store = record { table = t.checked; lent = room };
        below = ordered_below t.bytes.now t.records ordered h e;
        is = ordered_wire t.bytes.now t.records ordered h e;
      }

-- the registers of a plan
module _ (p : Plan) where
  module _ {j v : ℕ} (h : j < length p.registers.now) (e : v ≡ get_or p.registers.now j 0) where
    pub plan_listed : j < length (register_list (circuit_of p))
    plan_listed = rw p.listed at h

    pub plan_register_at : v ≡ get_or (register_list (circuit_of p)) j 0
    plan_register_at = rw p.listed at e

    pub plan_register_below : v < p.table.records
    plan_register_below =
        omega (
          arith,
          plan_register_at,
          (register_list_register (circuit_of p) j plan_listed).0,
          circuit_length p.table.bytes.now p.table.records,
        )

    pub plan_register_role : role (record_of (circuit_of p) v) ≡ register
    plan_register_role =
        subst (λ (u : ℕ). role (record_of (circuit_of p) u) ≡ register) (sym plan_register_at)
        (register_list_register (circuit_of p) j plan_listed).1

    pub plan_register : {A : Type 0} {L : Layout A} {cells : List ℕ} → p.table.records * L.each ≤ length cells
        → Evaluable L register p.table.bytes.now p.table.records cells v
    plan_register room =
        record {
          store = record { table = p.table.checked; lent = room };
          below = plan_register_below;
          is = plan_register_role;
        }

module _ {A : Type 0} {L : Layout A} {t : List ℕ} {n : ℕ} where
  -- a schedule's order leaves a checked table ready
  pub ordered_ready : {room : ℕ} {entry scratch : List ℕ} {wires registers : ℕ} {cells : List ℕ}
      → StoreLent L t n cells → 1 ≤ room → IsOrder (circuit t n) (n * room) entry scratch wires registers
      → Ready L room t n scratch wires registers cells
  ordered_ready {room} {wires = wires} {registers} s some o =
      record {
        wired = record {
          store = s;
          few = omega (arith, order_room o in_part, in_part);
          order = order_taken o in_part;
        };
        scratch_long = order_room o in_part;
        fits = few;
        all_registers = sym o.registers_length;
        listed = order_listed o in_part;
      }
    where
      few : wires + registers ≤ n
      few = omega (arith, o.fits, circuit_length t n)

      in_part : wires + registers ≤ n * room
      in_part = omega (arith, few, mul-le-mul_left n some, mul-one n)

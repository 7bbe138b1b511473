-- What the walk reads of a record, and what the record is: whether it is a wire, and what it uses.
-- Assumes nothing.
use mathlib.Core.Path.{◌≡◌, sym, ap, ◌∙◌, subst}
use mathlib.Core.Bool.{true, false}
use mathlib.Core.List.{List}
use Prim.Native.Nat.{ℕ, suc, ◌+◌, ◌*◌, ◌≤◌, ◌<◌}
use native.Mathlib.Nat.{not-suc-le-zero}
use native.Mathlib.Omega.{arith}
use lib.ListN.{length, get_or}
use Rattle.net.specs.Net.{wire, register}
use Rattle.net.specs.Loop.{Uses}
use Rattle.net.proofs.Bools.{true_false}
use Rattle.net.proofs.Loops.{member_get_or, member_place}
use Rattle.net.proofs.Settle.{by_role}
use Rattle.circuit.specs.declared.record.Record.{Record}
use Rattle.circuit.specs.Record.{role, uses, wire_uses, is_register}
use Rattle.circuit.specs.Reading.{fields_at, decode, encode}
use Rattle.circuit.specs.Circuit.{Circuit, circuit, record_of, graph}
use Rattle.circuit.proofs.Decoding.{wire_uses_most}
use Rattle.circuit.proofs.Records.{decode_encode}
use Rattle.circuit.proofs.Tables.{Inside, circuit_record}
use Rattle.schedule.specs.Walk.{last, used}

-- ---- records

record_most : (r : Record) → wire_uses r ≤ 4
record_most r = subst (λ (x : Record). wire_uses x ≤ 4) (decode_encode r) (wire_uses_most (encode r))

record_wire : (r : Record) → 0 < wire_uses r → role r ≡ wire
record_wire r h =
    by_role (role r)
    (λ q. absurd (not-suc-le-zero (rw (q, wire_uses) at h)))
    (λ q. q)
    (λ q. absurd (not-suc-le-zero (rw (q, wire_uses) at h)))

wire_uses_lem : (r : Record) → role r ≡ wire → wire_uses r ≡ suc (length (uses r))
wire_uses_lem r e = rw (e, wire_uses)

-- a wire's use is a use of its record
wire_use : (r : Record) (k : ℕ) → k + 1 < wire_uses r → k < length (uses r)
wire_use r k h = omega (arith, wire_uses_lem r (record_wire r (omega arith)))

not_both : (r : Record) → 0 < wire_uses r → is_register r ≡ false
not_both r h = rw (record_wire r h, is_register)

pub role_register : (r : Record) → role r ≡ register → is_register r ≡ true
role_register r e = rw (e, is_register)

pub register_role : (r : Record) → is_register r ≡ true → role r ≡ register
register_role r e =
    by_role (role r)
    (λ q. true_false (sym e ∙ rw (q, is_register)))
    (λ q. true_false (sym e ∙ rw (q, is_register)))
    (λ q. q)

-- ---- variables of a circuit

module _ (c : Circuit) (v : ℕ) where
  pub last_most : last c v ≤ 4
  unfolding last
  last_most = record_most (record_of c v)

  pub last_wire : 0 < last c v → role (record_of c v) ≡ wire
  unfolding last
  last_wire h = record_wire (record_of c v) h

  pub wire_last : role (record_of c v) ≡ wire → 0 < last c v
  unfolding last
  wire_last e = omega (arith, wire_uses_lem (record_of c v) e)

  pub last_no_register : 0 < last c v → is_register (record_of c v) ≡ false
  unfolding last
  last_no_register h = not_both (record_of c v) h

  pub used_uses : (k : ℕ) → k + 1 < last c v → Uses (graph c) v (used c v k)
  unfolding last used
  used_uses k h = member_get_or (uses (record_of c v)) k (wire_use (record_of c v) k h)

  pub uses_used : (u : ℕ) → role (record_of c v) ≡ wire → Uses (graph c) v u
      → (k : ℕ) × (k + 1 < last c v) × (used c v k ≡ u)
  unfolding last used
  uses_used u e m =
      let (k, h, q) = member_place u (uses (record_of c v)) m in
      (k, omega (arith, wire_uses_lem (record_of c v) e), q)

  pub used_below : (n k : ℕ) → length c ≡ n → Inside c → v < n → k + 1 < last c v → used c v k < n
  used_below n k len inside h l = omega (arith, inside v (used c v k) (omega arith) (used_uses k l))

-- ---- variables of a table

module _ (t : List ℕ) (n v : ℕ) (h : v < n) where
  pub last_decode : last (circuit t n) v ≡ wire_uses (decode (fields_at t (v * 16)))
  unfolding last
  last_decode = ap wire_uses (circuit_record t n v h)

  pub used_decode : (k : ℕ) → used (circuit t n) v k ≡ get_or (uses (decode (fields_at t (v * 16)))) k 0
  unfolding used
  used_decode k = ap (λ (r : Record). get_or (uses r) k 0) (circuit_record t n v h)

  pub use_decode : (k : ℕ) → k + 1 < last (circuit t n) v → k < length (uses (decode (fields_at t (v * 16))))
  use_decode k below = wire_use (decode (fields_at t (v * 16))) k (rw last_decode at below)

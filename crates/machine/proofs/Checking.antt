-- The checks of stimuli, step by step.
-- Assumes nothing.
use mathlib.Core.Path.{◌≡◌, refl}
use mathlib.Core.Bool.{false, and-false}
use mathlib.Core.List.{List}
use mathlib.Core.Option.{some}
use Prim.Native.Nat.{ℕ, suc, ◌+◌, ◌-◌, ◌*◌, ◌^◌, ◌<◌, ◌≤◌}
use native.Mathlib.Omega.{arith}
use borrow.Author.Tests.{lt-ltb, le-ltb}
use lib.Dec.{leb, ltb}
use lib.ListN.{length}
use Rattle.net.specs.declared.Stimulus.TheVariants.{Poke}
use Rattle.circuit.specs.declared.record.InputKind.{InputKind}
use Rattle.circuit.specs.declared.record.Record.{Record}
use Rattle.circuit.specs.declared.record.Record.TheVariants.{Input, Constant, Operator, Multiplexer, Register, Enabled}
use Rattle.circuit.specs.declared.refusal.Ground.TheVariants.{NotAnInput, PokeTooWide, FixedInput}
use Rattle.std.specs.Prelude.{Ok, Err}
use Rattle.std.specs.Prelude.{Ok, Err}
use Rattle.circuit.specs.Refusal.{passed, refused, refuse}
use Rattle.circuit.specs.declared.refusal.Refusal.{Refusal}
use Rattle.circuit.specs.Record.{input_of}
use Rattle.circuit.specs.Reading.{fields_at, decode}
use Rattle.circuit.specs.Circuit.{Circuit, circuit}
use Rattle.circuit.specs.Stimuli.{is_input, fixed_to_other, read_stimulus, check_stimulus, check_stimuli_from}
use Rattle.circuit.proofs.Tables.{circuit_length}
use Rattle.circuit.proofs.Operands.{record_here}

-- ---- one stimulus

pub poke_past : (t : List ℕ) (n v x i : ℕ) → n ≤ v
    → refused NotAnInput i ≡ check_stimulus (circuit t n) (Ok (Poke v x)) i
poke_past t n v x i h = rw (circuit_length t n, le-ltb v n h)

module _ (t : List ℕ) (n v x i : ℕ) (h : v < n) (r : Record) (e : r ≡ decode (fields_at t (v * 16))) where
  pub poke_other : ((w : ℕ) (k : InputKind) → r ≡ Input w k → ⊥)
      → refused NotAnInput i ≡ check_stimulus (circuit t n) (Ok (Poke v x)) i
  poke_other none = other r refl none
    where
      is_other : (y : Record) → r ≡ y → is_input (input_of y) ≡ false
          → refused NotAnInput i ≡ check_stimulus (circuit t n) (Ok (Poke v x)) i
      is_other y q other = rw (record_here t n v h r e y q, other, and-false (ltb v (length (circuit t n))))

      other : (y : Record) → r ≡ y → ((w : ℕ) (k : InputKind) → y ≡ Input w k → ⊥)
          → refused NotAnInput i ≡ check_stimulus (circuit t n) (Ok (Poke v x)) i
      other (Input w k) q none = absurd (none w k refl)
      other (Constant w m) q none = is_other (Constant w m) q refl
      other (Operator w o a b) q none = is_other (Operator w o a b) q refl
      other (Multiplexer w a b d) q none = is_other (Multiplexer w a b d) q refl
      other (Register w a m) q none = is_other (Register w a m) q refl
      other (Enabled w a b m) q none = is_other (Enabled w a b m) q refl

  pub poke_input : (w : ℕ) (k : InputKind) → r ≡ Input w k
      → refuse FixedInput i (fixed_to_other (some k) x) (refuse PokeTooWide i (leb (2 ^ w) x) passed)
      ≡ check_stimulus (circuit t n) (Ok (Poke v x)) i
  poke_input w k q = rw (circuit_length t n, lt-ltb v n h, record_here t n v h r e (Input w k) q)

-- ---- the list, from stimulus i on

module _ (c : Circuit) (s : List ℕ) (count : ℕ) where
  module _ (i : ℕ) where
    left : i < count → count - i ≡ suc (count - (i + 1))
    left h = omega arith

    pub each_more : i < count → check_stimulus c (read_stimulus s (i * 8)) i ≡ passed
        → check_stimuli_from c s (count - i) i ≡ check_stimuli_from c s (count - (i + 1)) (i + 1)
    unfolding check_stimuli_from
    each_more h e = rw (left h, e)

    pub each_refused : i < count → (r : Refusal) → check_stimulus c (read_stimulus s (i * 8)) i ≡ Err r
        → check_stimuli_from c s (count - i) i ≡ Err r
    unfolding check_stimuli_from
    each_refused h r e = rw (left h, e)

    pub each_end : count ≤ i → check_stimuli_from c s (count - i) i ≡ passed
    unfolding check_stimuli_from
    each_end h = rw none
      where
        none : count - i ≡ 0
        none = omega arith

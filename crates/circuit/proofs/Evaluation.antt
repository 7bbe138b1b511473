-- What a variable's record gives from a state, by what the record is.
-- Assumes nothing.
use Rattle.std.proofs.Common.{◌≡◌, ℕ, ◌%◌, ◌^◌, ne_eqb}
use Rattle.circuit.specs.declared.operator.Operator as operator
use Rattle.circuit.specs.declared.record.Record.TheVariants.{Constant, Operator, Multiplexer, Register, Enabled}
use Rattle.circuit.specs.Operator.{operator_code, result_of_code}
use Rattle.circuit.specs.Circuit.{Circuit, record_of}
use Rattle.circuit.specs.Machine.{multiplex, value, values}
use Rattle.circuit.proofs.Operators.{result_of_code_lem}

module _ (c : Circuit) (v : ℕ) (s : ℕ → ℕ) where
  pub constant_value : (w n : ℕ) → record_of c v ≡ Constant w n → n ≡ values c s v
  unfolding values
  constant_value w n e = rw (e, value)

  pub operator_value : (w : ℕ) (op : operator.Operator) (a b : ℕ) → record_of c v ≡ Operator w op a b
      → result_of_code (operator_code op) w (s a) (s b) ≡ values c s v
  unfolding values
  operator_value w op a b e = rw (result_of_code_lem op w (s a) (s b), e, value)

  pub multiplexer_value : (w a b d : ℕ) → record_of c v ≡ Multiplexer w a b d
      → multiplex w (s a) (s b) (s d) ≡ values c s v
  unfolding values
  multiplexer_value w a b d e = rw (e, value)

  pub register_value : (w a n : ℕ) → record_of c v ≡ Register w a n → s a % 2 ^ w ≡ values c s v
  unfolding values
  register_value w a n e = rw (e, value)

  pub held_value : (w a b n : ℕ) → record_of c v ≡ Enabled w a b n → s b ≡ 0 → s v ≡ values c s v
  unfolding values
  held_value w a b n e zero = rw (e, value, zero)

  pub taken_value : (w a b n : ℕ) → record_of c v ≡ Enabled w a b n → (s b ≡ 0 → ⊥) → s a % 2 ^ w ≡ values c s v
  unfolding values
  taken_value w a b n e some = rw (e, value, ne_eqb (s b) 0 some)

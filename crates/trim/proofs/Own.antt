-- A circuit's own certificate: its numbers fit their variables' widths, so that ground 22 lets it pass.
-- Assumes nothing.
use Prim.Native.Nat.{ℕ, ◌^◌, ◌<◌}
use native.Mathlib.Nat.{mod-lt}
use lib.Dec.{eqb}
use lib.ListN.{length}
use lib.Pow.{pow_pos}
use Rattle.net.proofs.Bools.{cond_case}
use Rattle.circuit.specs.declared.record.InputKind.{InputKind}
use Rattle.circuit.specs.declared.record.InputKind.TheVariants.{Fixed, Free, Secret}
use Rattle.circuit.specs.declared.record.Record.{Record}
use Rattle.circuit.specs.declared.record.Record.TheVariants.{Input, Constant, Operator, Multiplexer, Register, Enabled}
use Rattle.circuit.specs.declared.operator.Operator as operator
use Rattle.circuit.specs.Record.{width}
use Rattle.circuit.specs.Reading.{encode}
use Rattle.circuit.specs.Circuit.{Circuit, record_of, NoLoop}
use Rattle.circuit.proofs.Operators.{result_below}
use Rattle.circuit.proofs.Records.{encode_width}
use Rattle.fact.specs.declared.Fact.{Fact}
use Rattle.fact.specs.declared.Fact.TheVariants.{Always, Open, Marked}
use Rattle.fact.specs.Fact.{join, narrow}
use Rattle.fact.specs.Rule.{input_rule, known_zero, zero_decides, plain_rule, operator_rule}
use Rattle.fact.specs.Rule.{always_or_marked, choose, enable, rule_of, rule}
use Rattle.fact.specs.Certificate.{certificate}
use Rattle.fact.proofs.Certificate.{certificate_fixpoint}
use Rattle.trim.specs.Ready.{FactFits}
use Rattle.trim.proofs.Validity.{AllValid, valid_inside}

-- ---- what a rule gives, at every width

module _ (w : ℕ) where
  input_fits : (k : InputKind) → FactFits w (input_rule k)
  input_fits (Fixed n) = cond_case (FactFits w) (eqb n 0) (λ _. pow_pos w) (λ _. tt)
  input_fits Free = tt
  input_fits Secret = tt

  plain_fits : (op : operator.Operator) (f g : Fact) → FactFits w (plain_rule op w f g)
  plain_fits op (Always a) (Always b) = result_below op w a b
  plain_fits op (Always a) Open = tt
  plain_fits op (Always a) Marked = tt
  plain_fits op Open (Always b) = tt
  plain_fits op Open Open = tt
  plain_fits op Open Marked = tt
  plain_fits op Marked g = tt

  operator_fits : (op : operator.Operator) (f g : Fact) → FactFits w (operator_rule op w f g)
  operator_fits op f g =
      cond_case (FactFits w) (zero_decides op (known_zero f) (known_zero g)) (λ _. pow_pos w) (λ _. plain_fits op f g)

  narrow_fits : (f : Fact) → FactFits w (narrow w f)
  narrow_fits (Always n) = mod-lt n (pow_pos w)
  narrow_fits Open = tt
  narrow_fits Marked = tt

  join_fits : (f g : Fact) → FactFits w f → FactFits w (join f g)
  join_fits (Always m) (Always n) h = cond_case (FactFits w) (eqb m n) (λ _. h) (λ _. tt)
  join_fits (Always m) Open h = tt
  join_fits (Always m) Marked h = tt
  join_fits Open (Always n) h = tt
  join_fits Open Open h = tt
  join_fits Open Marked h = tt
  join_fits Marked g h = tt

  always_or_marked_fits : (f : Fact) → FactFits w f → FactFits w (always_or_marked f)
  always_or_marked_fits (Always n) h = h
  always_or_marked_fits Open h = tt
  always_or_marked_fits Marked h = tt

  choose_fits : (a b c : Fact) → FactFits w b → FactFits w c → FactFits w (choose a b c)
  choose_fits (Always n) b c h k = cond_case (FactFits w) (eqb n 0) (λ _. k) (λ _. h)
  choose_fits Open b c h k = join_fits b c h
  choose_fits Marked b c h k = always_or_marked_fits (join b c) (join_fits b c h)

  enable_fits : (b : Fact) (n : ℕ) (f : Fact) → n < 2 ^ w → FactFits w f → FactFits w (enable b n f)
  enable_fits (Always m) n f h k = cond_case (FactFits w) (eqb m 0) (λ _. h) (λ _. k)
  enable_fits Open n f h k = k
  enable_fits Marked n f h k = always_or_marked_fits f k

-- a record's rule gives a fact that fits where the record's value does
rule_fits : (r : Record) (s : ℕ → Fact) → (encode r).value < 2 ^ width r → FactFits (width r) (rule_of r s)
unfolding rule_of
rule_fits (Input w k) s h = input_fits w k
rule_fits (Constant w n) s h = h
rule_fits (Operator w op a b) s h = operator_fits w op (s a) (s b)
rule_fits (Multiplexer w a b c) s h =
    choose_fits w (s a) (narrow w (s b)) (narrow w (s c)) (narrow_fits w (s b)) (narrow_fits w (s c))
rule_fits (Register w a n) s h = join_fits w (narrow w (s a)) (Always n) (narrow_fits w (s a))
rule_fits (Enabled w a b n) s h =
    enable_fits w (s b) n (join (narrow w (s a)) (Always n)) h
    (join_fits w (narrow w (s a)) (Always n) (narrow_fits w (s a)))

-- ---- the certificate

-- a number that the certificate calls always fits its variable's width
pub certificate_fits : (c : Circuit) → AllValid c → NoLoop c → (v : ℕ) → v < length c
    → FactFits (width (record_of c v)) (certificate c v)
unfolding rule
certificate_fits c valid no_loop v below =
    rw (certificate_fixpoint c (valid_inside c valid) no_loop v below)
    (rule_fits (record_of c v) (certificate c) (rw (encode_width (record_of c v)) at (valid v below).value))

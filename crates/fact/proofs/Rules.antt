-- The rule of a variable, by what its record is; and a register's fact from its byte 0 and its power-on value.
-- Assumes nothing.
use mathlib.Core.Path.{◌≡◌, refl, sym, ap, ◌∙◌}
use Prim.Native.Nat.{ℕ}
use borrow.Author.Tests.{eqb-true}
use lib.Dec.{eqb}
use Rattle.net.specs.Net.{register}
use Rattle.net.proofs.Bools.{cond_case}
use Rattle.net.proofs.Settle.{input_register, wire_register}
use Rattle.circuit.specs.declared.operator.Operator as operator
use Rattle.circuit.specs.declared.record.Record.{Record}
use Rattle.circuit.specs.declared.record.Record.TheVariants.{Input, Constant, Operator, Multiplexer, Register, Enabled}
use Rattle.circuit.specs.Record.{role}
use Rattle.circuit.specs.Circuit.{Circuit, record_of}
use Rattle.circuit.specs.Machine.{initial}
use Rattle.fact.specs.declared.Fact.{Fact}
use Rattle.fact.specs.declared.Fact.TheVariants.{Always, Open, Marked}
use Rattle.fact.specs.Fact.{join, narrow, fact_byte, fact_of}
use Rattle.fact.specs.Rule.{operator_rule, multiplexer_rule, register_rule, always_or_marked, enable, enabled_rule, rule_of, rule}

module _ (c : Circuit) (v : ℕ) (s : ℕ → Fact) where
  pub constant_rule : (w n : ℕ) → record_of c v ≡ Constant w n → Always n ≡ rule c s v
  unfolding rule
  constant_rule w n e = rw (e, rule_of)

  pub operator_rule_lem : (w : ℕ) (op : operator.Operator) (a b : ℕ) → record_of c v ≡ Operator w op a b
      → operator_rule op w (s a) (s b) ≡ rule c s v
  unfolding rule
  operator_rule_lem w op a b e = rw (e, rule_of)

  pub multiplexer_rule_lem : (w a b d : ℕ) → record_of c v ≡ Multiplexer w a b d
      → multiplexer_rule w (s a) (s b) (s d) ≡ rule c s v
  unfolding rule
  multiplexer_rule_lem w a b d e = rw (e, rule_of)

  pub register_rule_lem : (w a n : ℕ) → record_of c v ≡ Register w a n → register_rule w n (s a) ≡ rule c s v
  unfolding rule
  register_rule_lem w a n e = rw (e, rule_of)

  pub enabled_rule_lem : (w a b n : ℕ) → record_of c v ≡ Enabled w a b n → enabled_rule w n (s a) (s b) ≡ rule c s v
  unfolding rule
  enabled_rule_lem w a b n e = rw (e, rule_of)

-- byte 0 of a fact, with the number p, gives the fact back
abbrev Back : ℕ → Fact → Type 0
Back p f = fact_of (fact_byte f) p ≡ f

-- a register that is always one number is always its power-on value
join_back : (x : Fact) (p : ℕ) → Back p (join x (Always p))
join_back (Always m) p = cond_case (Back p) (eqb m p) (λ e. ap Always (sym (eqb-true m p e))) (λ e. refl)
join_back Open p = refl
join_back Marked p = refl

always_or_marked_back : (f : Fact) (p : ℕ) → Back p f → Back p (always_or_marked f)
always_or_marked_back (Always n) p e = e
always_or_marked_back Open p e = refl
always_or_marked_back Marked p e = refl

-- with an enable too
enable_back : (b : Fact) (p : ℕ) (f : Fact) → Back p f → Back p (enable b p f)
enable_back (Always k) p f e = cond_case (Back p) (eqb k 0) (λ z. refl) (λ z. e)
enable_back Open p f e = e
enable_back Marked p f e = always_or_marked_back f p e

rule_back : (r : Record) (s : ℕ → Fact) → role r ≡ register → Back (initial r) (rule_of r s)
unfolding rule_of
rule_back (Input w k) s e = input_register e
rule_back (Constant w n) s e = wire_register e
rule_back (Operator w op a b) s e = wire_register e
rule_back (Multiplexer w a b c) s e = wire_register e
rule_back (Register w a n) s e = join_back (narrow w (s a)) n
rule_back (Enabled w a b n) s e = enable_back (s b) n (register_rule w n (s a)) (join_back (narrow w (s a)) n)

-- so byte 0 of its rule's fact gives the fact back
pub register_byte : (c : Circuit) (s : ℕ → Fact) (v : ℕ) {byte n : ℕ} {f : Fact} → role (record_of c v) ≡ register
    → initial (record_of c v) ≡ n → byte ≡ fact_byte (rule c s v) → f ≡ fact_of byte n → f ≡ rule c s v
unfolding rule
register_byte c s v is first staged e = e ∙ rw (staged, ← first) (rule_back (record_of c v) s is)

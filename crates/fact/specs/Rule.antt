-- The rule of each kind of record, as a function of its operands' facts, and the rule of a circuit over a store.
-- Assumes nothing.
use Rattle.std.specs.Prelude.{Bool, false, cond, ◌||◌, ℕ, eqb}
use Rattle.circuit.specs.declared.operator.Operator as operator
use Rattle.circuit.specs.declared.operator.Operator.TheVariants.{Add, Sub, And, Or, Xor, Equal, Less, ShiftLeft, ShiftRight}
use Rattle.circuit.specs.declared.record.InputKind.{InputKind}
use Rattle.circuit.specs.declared.record.InputKind.TheVariants.{Fixed, Free, Secret}
use Rattle.circuit.specs.declared.record.Record.{Record}
use Rattle.circuit.specs.declared.record.Record.TheVariants.{Input, Constant, Operator, Multiplexer, Register, Enabled}
use Rattle.circuit.specs.Operator.{result}
use Rattle.circuit.specs.Circuit.{Circuit, record_of}
use Rattle.fact.specs.declared.Fact.{Fact}
use Rattle.fact.specs.declared.Fact.TheVariants.{Always, Open, Marked}
use Rattle.fact.specs.Fact.{join, narrow}

-- a fixed input, which holds 0 until n is poked into it, is always 0 where n is 0, else open; a free one is open, a
-- secret one marked
abbrev pub input_rule : InputKind → Fact
input_rule (Fixed n) = cond (eqb n 0) (Always 0) Open
input_rule Free = Open
input_rule Secret = Marked

-- whether a fact is always 0
abbrev pub known_zero : Fact → Bool
known_zero (Always n) = eqb n 0
known_zero Open = false
known_zero Marked = false

-- whether a known zero decides the operator, by whether A is one and whether B is (request S-7): of an and, either; of
-- less, B; of a shift, A, which is what is shifted
abbrev pub zero_decides : operator.Operator → Bool → Bool → Bool
zero_decides Add a b = false
zero_decides Sub a b = false
zero_decides And a b = a || b
zero_decides Or a b = false
zero_decides Xor a b = false
zero_decides Equal a b = false
zero_decides Less a b = b
zero_decides ShiftLeft a b = a
zero_decides ShiftRight a b = a

-- document 01's rule: both operands always, then always their result; else marked if an operand is marked; else open
abbrev pub plain_rule : operator.Operator → ℕ → Fact → Fact → Fact
plain_rule op w (Always a) (Always b) = Always (result op w a b)
plain_rule op w (Always a) Open = Open
plain_rule op w (Always a) Marked = Marked
plain_rule op w Open (Always b) = Open
plain_rule op w Open Open = Open
plain_rule op w Open Marked = Marked
plain_rule op w Marked g = Marked

-- always 0 where a known zero decides, whatever the other operand is; else the plain rule
abbrev pub operator_rule : operator.Operator → ℕ → Fact → Fact → Fact
operator_rule op w a b = cond (zero_decides op (known_zero a) (known_zero b)) (Always 0) (plain_rule op w a b)

-- the fact if it is always, else marked
abbrev pub always_or_marked : Fact → Fact
always_or_marked (Always n) = Always n
always_or_marked Open = Marked
always_or_marked Marked = Marked

-- of narrowed arms: control always, the arm taken; open, the join; marked, the join if that is always, else marked
abbrev pub choose : Fact → Fact → Fact → Fact
choose (Always a) b c = cond (eqb a 0) c b
choose Open b c = join b c
choose Marked b c = always_or_marked (join b c)

-- narrow B and C first
abbrev pub multiplexer_rule : ℕ → Fact → Fact → Fact → Fact
multiplexer_rule w a b c = choose a (narrow w b) (narrow w c)

-- narrow A's fact first, then join it with always the power-on value
abbrev pub register_rule : ℕ → ℕ → Fact → Fact
register_rule w n a = join (narrow w a) (Always n)

-- of a plain register's fact: enable always 0, always the power-on value; always another number or open, that fact;
-- marked, that fact if it is always, else marked
abbrev pub enable : Fact → ℕ → Fact → Fact
enable (Always b) n f = cond (eqb b 0) (Always n) f
enable Open n f = f
enable Marked n f = always_or_marked f

-- a register with an enable, on the facts of A and B
abbrev pub enabled_rule : ℕ → ℕ → Fact → Fact → Fact
enabled_rule w n a b = enable b n (register_rule w n a)

-- what a record's rule gives from a store
unfoldable pub rule_of : Record → (ℕ → Fact) → Fact
unfolding result
rule_of (Input w k) s = input_rule k
rule_of (Constant w n) s = Always n
rule_of (Operator w op a b) s = operator_rule op w (s a) (s b)
rule_of (Multiplexer w a b c) s = multiplexer_rule w (s a) (s b) (s c)
rule_of (Register w a n) s = register_rule w n (s a)
rule_of (Enabled w a b n) s = enabled_rule w n (s a) (s b)

unfoldable pub rule : Circuit → (ℕ → Fact) → ℕ → Fact
unfolding rule_of
rule c s v = rule_of (record_of c v) s

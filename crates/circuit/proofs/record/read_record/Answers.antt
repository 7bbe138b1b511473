-- Grounds 5 to 10, each where those before it do not hold.
-- Assumes nothing.
use Rattle.std.proofs.Common.{ℕ, Bool, eqb, ltb, leb, ◌∷◌, sym, ap, ◌∙◌}
use Rattle.net.specs.Tests.{every}
use Rattle.circuit.specs.declared.record.Fields.{Fields}
use Rattle.circuit.specs.declared.record.Record.{Record}
use Rattle.std.specs.Prelude.{Ok}
use Rattle.circuit.specs.Record.{uses}
use Rattle.circuit.specs.Reading.{codes, unused}
use Rattle.circuit.proofs.Lookups.{kind_is, kind_none}
use Rattle.circuit.proofs.Records.{refused_kind, refused_width, refused_code, refused_zeros, refused_variables, refused_value, accepted}
use Rattle.circuit.proofs.record.read_record.Goals as goal

zero_test : Fields → Record → Bool
zero_test f r = every (λ x. eqb x 0) (f.byte3 ∷ f.bytes10 ∷ unused r f)

below_test : ℕ → Record → Bool
below_test n r = every (λ v. ltb v n) (uses r)

pub returns-in_default : goal.returns-in_default
returns-in_default c =
    refused_kind c.args.f c.args.n (kind_none _ (sym c.read_kind.ensures ∙ c.in_default.is))

pub returns-then-bad_width : goal.returns-then-bad_width
returns-then-bad_width c =
    let kind = kind_is c.args.f.kind _ (sym c.read_kind.ensures ∙ c.in-Some.is) in
    refused_width c.args.f c.args.n kind.0 (sym c.bad_width.ensures ∙ c.if-bad_width.true)

pub returns-then-unknown_code : goal.returns-then-unknown_code
returns-then-unknown_code c =
    let f = c.args.f in
    let kind = kind_is f.kind _ (sym c.read_kind.ensures ∙ c.in-Some.is) in
    let width = sym c.bad_width.ensures ∙ c.if-bad_width.false in
    let code =
    ap (λ k. leb (codes k) f.code) (sym kind.1) ∙ sym c.unknown_code.ensures ∙ c.if-unknown_code.true in
    refused_code f c.args.n kind.0 width code

pub returns-then-not-unused_zero : goal.returns-then-not-unused_zero
unfolding zero_test
returns-then-not-unused_zero c =
    let f = c.args.f in
    let kind = kind_is f.kind _ (sym c.read_kind.ensures ∙ c.in-Some.is) in
    let width = sym c.bad_width.ensures ∙ c.if-bad_width.false in
    let code =
    ap (λ k. leb (codes k) f.code) (sym kind.1) ∙ sym c.unknown_code.ensures ∙ c.if-unknown_code.false in
    let zeros =
    ap (zero_test f) (sym c.decode-r.ensures) ∙ sym c.unused_zero.ensures ∙ c.if-not-unused_zero.true in
    refused_zeros f c.args.n kind.0 width code zeros

pub returns-then-not-uses_below : goal.returns-then-not-uses_below
unfolding zero_test below_test
returns-then-not-uses_below c =
    let f = c.args.f in
    let n = c.args.n in
    let kind = kind_is f.kind _ (sym c.read_kind.ensures ∙ c.in-Some.is) in
    let width = sym c.bad_width.ensures ∙ c.if-bad_width.false in
    let code =
    ap (λ k. leb (codes k) f.code) (sym kind.1) ∙ sym c.unknown_code.ensures ∙ c.if-unknown_code.false in
    let zeros =
    ap (zero_test f) (sym c.decode-r.ensures) ∙ sym c.unused_zero.ensures ∙ c.if-not-unused_zero.false in
    let variables =
    ap (below_test n) (sym c.decode-r.ensures) ∙ sym c.uses_below.ensures ∙ c.if-not-uses_below.true in
    refused_variables f n kind.0 width code zeros variables

pub returns-then-is_exceeded_by : goal.returns-then-is_exceeded_by
unfolding zero_test below_test
returns-then-is_exceeded_by c =
    let f = c.args.f in
    let n = c.args.n in
    let kind = kind_is f.kind _ (sym c.read_kind.ensures ∙ c.in-Some.is) in
    let width = sym c.bad_width.ensures ∙ c.if-bad_width.false in
    let code =
    ap (λ k. leb (codes k) f.code) (sym kind.1) ∙ sym c.unknown_code.ensures ∙ c.if-unknown_code.false in
    let zeros =
    ap (zero_test f) (sym c.decode-r.ensures) ∙ sym c.unused_zero.ensures ∙ c.if-not-unused_zero.false in
    let variables =
    ap (below_test n) (sym c.decode-r.ensures) ∙ sym c.uses_below.ensures ∙ c.if-not-uses_below.false in
    refused_value f n kind.0 width code zeros variables (rw c.width.ensures at (sym c.is_exceeded_by.ensures ∙ c.if-is_exceeded_by.true))

pub returns : goal.returns
unfolding zero_test below_test
returns c =
    let f = c.args.f in
    let n = c.args.n in
    let kind = kind_is f.kind _ (sym c.read_kind.ensures ∙ c.in-Some.is) in
    let width = sym c.bad_width.ensures ∙ c.if-bad_width.false in
    let code =
    ap (λ k. leb (codes k) f.code) (sym kind.1) ∙ sym c.unknown_code.ensures ∙ c.if-unknown_code.false in
    let zeros =
    ap (zero_test f) (sym c.decode-r.ensures) ∙ sym c.unused_zero.ensures ∙ c.if-not-unused_zero.false in
    let variables =
    ap (below_test n) (sym c.decode-r.ensures) ∙ sym c.uses_below.ensures ∙ c.if-not-uses_below.false in
    ap Ok c.decode-r.ensures
    ∙ accepted f n kind.0 width code zeros variables (rw c.width.ensures at (sym c.is_exceeded_by.ensures ∙ c.if-is_exceeded_by.false))

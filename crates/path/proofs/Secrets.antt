-- Which records are secret inputs, by their bytes.
-- Assumes nothing.
use mathlib.Core.Path.{◌≡◌, refl, sym, ap, ◌∙◌}
use mathlib.Core.Bool.{false}
use mathlib.Core.Option.{some}
use Prim.Native.Nat.{ℕ, zero, suc}
use native.Mathlib.Omega.{arith}
use borrow.Author.Tests.{le-leb}
use lib.Dec.{leb}
use lib.ListN.{get_or-eq_default}
use Rattle.circuit.specs.declared.record.Fields.{Fields}
use Rattle.circuit.specs.declared.record.InputKind.{InputKind}
use Rattle.circuit.specs.declared.record.InputKind.TheVariants.{Secret}
use Rattle.circuit.specs.Record.{input_of}
use Rattle.circuit.specs.Reading.{decode, input_kinds, input_kind_of}
use Rattle.circuit.proofs.Decoding.{by_kind, decode_input, decode_constant, decode_operator, decode_multiplexer, decode_register, decode_enabled}
use Rattle.fact.specs.TwoRuns.{is_secret}

module _ (f : Fields) where
  -- what is not of kind 0 is no input
  pub no_input : (f.kind ≡ 0 → ⊥) → is_secret (input_of (decode f)) ≡ false
  no_input ne =
      by_kind f.kind
      (λ e. absurd (ne e))
      (λ e. rw (decode_constant f e))
      (λ e. rw (decode_operator f e))
      (λ e. rw (decode_multiplexer f e))
      (λ e. rw (decode_register f e))
      (λ h. rw (decode_enabled f h))

  -- an input is secret by its code
  pub input_secret : f.kind ≡ 0 → is_secret (input_of (decode f)) ≡ leb 2 f.code
  input_secret e = rw (decode_input f e) (by_code f.code f.value)
    where
      by_code : (code n : ℕ) → is_secret (some (input_kind_of code n)) ≡ leb 2 code
      by_code zero n = refl
      by_code (suc zero) n = refl
      by_code (suc (suc zero)) n = refl
      by_code (suc (suc (suc code))) n =
          ap (λ (k : InputKind). is_secret (some k))
          (get_or-eq_default (input_kinds n) Secret {n = suc (suc (suc code))} (omega arith))
          ∙ sym (le-leb 2 (suc (suc (suc code))) (omega arith))

-- Registers that take their values one after the other, all from the same store, end in the store after a step. Over
-- any type of values.
-- Assumes nothing.
use mathlib.Core.Path.{◌≡◌, refl, sym, ◌∙◌, subst}
use Prim.Native.Nat.{ℕ, zero, suc, ◌≤◌, ◌<◌}
use native.Mathlib.Nat.{not-suc-le-zero, le_refl}
use native.Mathlib.Omega.{arith}
use lib.ListN.{length, get_or}
use Rattle.net.specs.Net.{register, put, step}
use Rattle.net.proofs.Cases.{by_same}
use Rattle.net.proofs.Put.{put_same, put_other}
use Rattle.net.proofs.Settle.{by_role, input_register, wire_register, step_input, step_wire, step_register}
use Rattle.circuit.specs.Record.{role}
use Rattle.circuit.specs.Circuit.{Circuit, record_of, graph}
use Rattle.schedule.specs.Schedule.{register_list}
use Rattle.schedule.proofs.Registers.{register_list_register, register_list_ascending, register_list_all}
use Rattle.engine.specs.Registers.{next_of}

module _ {A : Type 0} (c : Circuit) (f : (ℕ → A) → ℕ → A) where
  -- the first j registers have taken their values, all from the same store
  unfoldable pub together : ℕ → (ℕ → A) → ℕ → A
  unfolding put
  together zero s = s
  together (suc j) s = put (together j s) (get_or (register_list c) j 0) (next_of c f s j)

module _ {A : Type 0} (c : Circuit) (f : (ℕ → A) → ℕ → A) (s : ℕ → A) where
  together_done : (j k : ℕ) → j ≤ length (register_list c) → k < j
      → together c f j s (get_or (register_list c) k 0) ≡ next_of c f s k
  unfolding together
  together_done zero k few l = absurd (not-suc-le-zero l)
  together_done (suc j) k few l =
      by_same k j
      (λ e. rw e (put_same (together c f j s) (get_or (register_list c) j 0) (next_of c f s j)))
      (λ ne.
      put_other (together c f j s) (get_or (register_list c) j 0) (next_of c f s j) (get_or (register_list c) k 0)
      (λ e. omega (arith, register_list_ascending c k j (omega arith) few, e))
      ∙ together_done j k (omega arith) (omega arith))

  together_rest : (j u : ℕ) → ((k : ℕ) → k < j → get_or (register_list c) k 0 ≡ u → ⊥) → together c f j s u ≡ s u
  unfolding together
  together_rest zero u none = refl
  together_rest (suc j) u none =
      put_other (together c f j s) (get_or (register_list c) j 0) (next_of c f s j) u (λ e. none j (le_refl _) (sym e))
      ∙ together_rest j u (λ k l. none k (omega arith))

  -- all of them
  pub together_step : (v : ℕ) → v < length c → together c f (length (register_list c)) s v ≡ step (graph c) f s v
  together_step v below =
      by_role (role (record_of c v))
      (λ d. kept (λ q. input_register (sym d ∙ q)) ∙ sym (step_input (graph c) f s v d))
      (λ d. kept (λ q. wire_register (sym d ∙ q)) ∙ sym (step_wire (graph c) f s v d))
      (λ d.
      let (k, l, e) = register_list_all c v below d in
      rw e at (together_done (length (register_list c)) k (le_refl _) l) ∙ sym (step_register (graph c) f s v d))
    where
      kept : (role (record_of c v) ≡ register → ⊥) → together c f (length (register_list c)) s v ≡ s v
      kept q =
          together_rest (length (register_list c)) v
          (λ k l e. q (subst (λ (u : ℕ). role (record_of c u) ≡ register) e (register_list_register c k l).1))

-- A net that follows another along a map of its variables: each of its variables, through rounds and through stimuli,
-- holds what the variable that it is mapped to holds in the other. What the two nets and their rules have to do with
-- each other is a premise, over any type of values.
-- Assumes nothing.
use mathlib.Core.Path.{◌≡◌, sym, ap, ◌∙◌}
use mathlib.Core.List.{List}
use Prim.Native.Nat.{ℕ, zero, suc, ◌≤◌, ◌<◌}
use native.Mathlib.Omega.{arith}
use lib.ListN.{take}
use Rattle.net.specs.declared.Stimulus.{Stimulus}
use Rattle.net.specs.Net.{Graph, input, wire, register, put, settle, step, round, after, Settled}
use Rattle.net.specs.Machine.{run, Renumbered, none, ticks, pokes}
use Rattle.net.proofs.Cases.{by_same}
use Rattle.net.proofs.Put.{put_same, put_other}
use Rattle.net.proofs.Settle.{Ranked, Local, Agree, step_input, step_register}
use Rattle.net.proofs.Settle.{settle_settled, settle_unique, settle_input, settle_register}

-- What is asked of the map `old`, from the variables of g' to those of g, and of the two rules. An input is mapped to
-- an input and a register to a register, a wire to any variable. `I` is what is known of a store of g.
pub record Follows {A : Type 0} (g : Graph) (f : (ℕ → A) → ℕ → A) (g' : Graph) (f' : (ℕ → A) → ℕ → A) (old : ℕ → ℕ)
    (I : (ℕ → A) → Type 0) : Type 0 where
  pub inputs : (v : ℕ) → v < g'.size → g'.role v ≡ input → g.role (old v) ≡ input
  pub registers : (v : ℕ) → v < g'.size → g'.role v ≡ register → g.role (old v) ≡ register
  pub wires : (s : ℕ → A) → Settled g f s → I s → (v : ℕ) → v < g'.size → g'.role v ≡ wire
      → f' (λ u. s (old u)) v ≡ s (old v)
  pub steps : (s : ℕ → A) → I s → (v : ℕ) → v < g'.size → g'.role v ≡ register → f' (λ u. s (old u)) v ≡ f s (old v)
  pub agree : (s t : ℕ → A) → Agree g' s t → Agree g' (f' s) (f' t)

module _ {A : Type 0} {g g' : Graph} {f f' : (ℕ → A) → ℕ → A} {old : ℕ → ℕ} {I : (ℕ → A) → Type 0}
    (r : Ranked g) (local : Local g f) (r' : Ranked g') (local' : Local g' f') (F : Follows g f g' f' old I) where
  -- where inputs and registers hold what those that they are mapped to hold, the settled wires do too
  pub settle_follows : (s s' : ℕ → A) → I (settle g f s)
      → ((v : ℕ) → v < g'.size → g'.role v ≡ input → s' v ≡ s (old v))
      → ((v : ℕ) → v < g'.size → g'.role v ≡ register → s' v ≡ s (old v))
      → Agree g' (settle g' f' s') (λ v. settle g f s (old v))
  settle_follows s s' i a b v h =
      sym (settle_unique r' f' local' s' (λ u. settle g f s (old u))
      (λ u k e. sym (F.wires (settle g f s) (settle_settled r f local s) i u k e))
      (λ u k e. settle_input g f s (old u) (F.inputs u k e) ∙ sym (a u k e))
      (λ u k e. settle_register g f s (old u) (F.registers u k e) ∙ sym (b u k e)) v h)

  -- where every variable does, every variable does after a round
  pub round_follows : (s s' : ℕ → A) → I s → I (round g f s) → Agree g' s' (λ v. s (old v))
      → Agree g' (round g' f' s') (λ v. round g f s (old v))
  unfolding round
  round_follows s s' i i' a =
      settle_follows (step g f s) (step g' f' s') i'
      (λ v h e. step_input g' f' s' v e ∙ a v h ∙ sym (step_input g f s (old v) (F.inputs v h e)))
      (λ v h e. step_register g' f' s' v e ∙ F.agree s' (λ u. s (old u)) a v h ∙ F.steps s i v h e
      ∙ sym (step_register g f s (old v) (F.registers v h e)))

  -- and after any number of rounds, if what is asked to be known is known before and after each
  pub after_follows : (k : ℕ) (s s' : ℕ → A) → ((j : ℕ) → j ≤ k → I (after g f j s)) → Agree g' s' (λ v. s (old v))
      → Agree g' (after g' f' k s') (λ v. after g f k s (old v))
  unfolding after
  after_follows zero s s' i a = a
  after_follows (suc k) s s' i a =
      after_follows k (round g f s) (round g' f' s') (λ j h. i (suc j) (omega arith))
      (round_follows s s' (i zero (omega arith)) (i (suc zero) (omega arith)) a)

-- ---- the machine

module _ {g g' : Graph} {f f' : (ℕ → ℕ) → ℕ → ℕ} {old : ℕ → ℕ} {I : (ℕ → ℕ) → Type 0}
    (r : Ranked g) (local : Local g f) (r' : Ranked g') (local' : Local g' f') (F : Follows g f g' f' old I)
    (injective : (u v : ℕ) → u < g'.size → v < g'.size → old u ≡ old v → u ≡ v) where
  put_follows : (s s' : ℕ → ℕ) (i j x : ℕ) → j < g'.size → old j ≡ i → Agree g' s' (λ v. s (old v))
      → Agree g' (put s' j x) (λ v. put s i x (old v))
  put_follows s s' i j x h e a v k =
      by_same v j
      (λ d. ap (put s' j x) d ∙ put_same s' j x ∙ sym (put_same s i x) ∙ ap (put s i x) (sym (ap old d ∙ e)))
      (λ d. put_other s' j x v d ∙ a v k ∙ sym (put_other s i x (old v) (λ q. d (injective v j k h (q ∙ sym e)))))

  -- and after a list of stimuli whose pokes are renumbered
  pub run_follows : {xs ys : List Stimulus} → Renumbered g' old xs ys → (s s' : ℕ → ℕ)
      → ((k : ℕ) → I (run g f (take k xs) s)) → Agree g' s' (λ v. s (old v))
      → Agree g' (run g' f' ys s') (λ v. run g f xs s (old v))
  unfolding run
  run_follows none s s' i a = a
  run_follows (ticks l) s s' i a =
      run_follows l (round g f s) (round g' f' s') (λ k. i (suc k))
      (round_follows r local r' local' F s s' (i 0) (i 1) a)
  run_follows (pokes {i = p} {j} {x} h e l) s s' i a =
      run_follows l (settle g f (put s p x)) (settle g' f' (put s' j x)) (λ k. i (suc k))
      (settle_follows r local r' local' F (put s p x) (put s' j x) (i 1)
      (λ v k d. put_follows s s' p j x h e a v k)
      (λ v k d. put_follows s s' p j x h e a v k))

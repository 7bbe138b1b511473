-- Two runs of the machine stay related by a store that is a fixpoint of the rule, over two lists of stimuli entire.
-- What ties the rule of a lattice to the machine's numbers is a premise.
-- Assumes nothing.
use mathlib.Core.Path.{◌≡◌, refl}
use mathlib.Core.Bool.{Bool, true, false}
use mathlib.Core.List.{List}
use Prim.Native.Nat.{ℕ, ◌<◌}
use lib.Dec.{eqb, eqb→eq}
use Rattle.net.specs.declared.Stimulus.{Stimulus}
use Rattle.net.specs.Net.{Graph, input, wire, register, settle, put, step, round, Fixpoint}
use Rattle.net.specs.Loop.{Uses}
use Rattle.net.specs.Machine.{run, Alike, none, ticks, pokes}
use Rattle.net.proofs.Bools.{T_of}
use Rattle.net.proofs.Settle.{by_rank, Ranked, Local, step_input, step_register, settle_settled, settle_input, settle_register}

-- `Rel x a b` is what the lattice's element x says of a variable's numbers a and b in the two runs. A wire's numbers
-- are related by its rule where those that it uses are. A register is asked for where the store is a fixpoint, and may
-- use that its old numbers are related.
pub record Sound {A : Type 0} (g : Graph) (f : (ℕ → A) → ℕ → A) (values : (ℕ → ℕ) → ℕ → ℕ)
    (Rel : A → ℕ → ℕ → Type 0) : Type 0 where
  pub local : Local g values
  pub wires : (s : ℕ → A) (m m' : ℕ → ℕ) (v : ℕ) → v < g.size → g.role v ≡ wire
      → ((u : ℕ) → Uses g v u → Rel (s u) (m u) (m' u))
      → Rel (f s v) (values m v) (values m' v)
  pub registers : (s : ℕ → A) (m m' : ℕ → ℕ) (v : ℕ) → v < g.size → g.role v ≡ register
      → ((u : ℕ) → Uses g v u → Rel (s u) (m u) (m' u))
      → s v ≡ f s v → Rel (s v) (m v) (m' v) → Rel (s v) (values m v) (values m' v)

module _ {A : Type 0} {g : Graph} {f : (ℕ → A) → ℕ → A} {values : (ℕ → ℕ) → ℕ → ℕ} {Rel : A → ℕ → ℕ → Type 0}
    (r : Ranked g) (S : Sound g f values Rel) (s : ℕ → A) (fixed : Fixpoint g f s) where
  -- two states are related at every variable of the net
  abbrev pub Related : (ℕ → ℕ) → (ℕ → ℕ) → Type 0
  Related m m' = (v : ℕ) → v < g.size → Rel (s v) (m v) (m' v)

  settle_related : (m m' : ℕ → ℕ)
      → ((v : ℕ) → v < g.size → g.role v ≡ input → Rel (s v) (m v) (m' v))
      → ((v : ℕ) → v < g.size → g.role v ≡ register → Rel (s v) (m v) (m' v))
      → Related (settle g values m) (settle g values m')
  settle_related m m' a b =
      by_rank r (λ v. Rel (s v) (settle g values m v) (settle g values m' v))
      (λ v h e. rw (settle_input g values m v e, settle_input g values m' v e) (a v h e))
      (λ v h e. rw (settle_register g values m v e, settle_register g values m' v e) (b v h e))
      (λ v h e ih. rw (
        fixed v h,
        settle_settled r values S.local m v h e,
        settle_settled r values
            S.local m' v h e,
      ) (S.wires s _ _ v h e ih))

  tick_related : (m m' : ℕ → ℕ) → Related m m' → Related (round g values m) (round g values m')
  unfolding round
  tick_related m m' h =
      settle_related (step g values m) (step g values m')
      (λ v below e. rw (step_input g values m v e, step_input g values m' v e) (h v below))
      (λ v below e. rw (step_register g values m v e, step_register g values m' v e)
      (S.registers s m m' v below e (λ u x. h u (r.inside v u below x)) (fixed v below) (h v below)))

  put_related : (i x y : ℕ) (m m' : ℕ → ℕ) → Rel (s i) x y → Related m m' → Related (put m i x) (put m' i y)
  unfolding put
  put_related i x y m m' hx h v below = go (eqb v i) refl
    where
      go : (b : Bool) → eqb v i ≡ b → Rel (s v) (put m i x v) (put m' i y v)
      go true e = rw (e, put) (rw (eqb→eq v i (T_of _ e)) hx)
      go false e = rw (e, put) (h v below)

  run_related : {xs ys : List Stimulus} → Alike (λ i. Rel (s i)) xs ys → (m m' : ℕ → ℕ) → Related m m'
      → Related (run g values xs m) (run g values ys m')
  unfolding run
  run_related none m m' h = h
  run_related (ticks a) m m' h = run_related a (round g values m) (round g values m') (tick_related m m' h)
  run_related (pokes {i} {x} {y} q a) m m' h =
      run_related a (settle g values (put m i x)) (settle g values (put m' i y))
      (settle_related (put m i x) (put m' i y)
      (λ v below e. put_related i x y m m' q h v below)
      (λ v below e. put_related i x y m m' q h v below))

  -- From two states that settle from related inputs and registers, and over two alike lists, every variable stays
  -- related.
  pub two_runs : (first first' : ℕ → ℕ) {xs ys : List Stimulus}
      → ((v : ℕ) → v < g.size → g.role v ≡ input → Rel (s v) (first v) (first' v))
      → ((v : ℕ) → v < g.size → g.role v ≡ register → Rel (s v) (first v) (first' v))
      → Alike (λ i. Rel (s i)) xs ys
      → Related (run g values xs (settle g values first)) (run g values ys (settle g values first'))
  two_runs first first' a b alike =
      run_related alike (settle g values first) (settle g values first') (settle_related first first' a b)

-- Cases A to J hold, and those of the requests: their tables have no loop, by numbers that fall along every wire's
-- uses, and the rest is computed.
-- Assumes nothing.
use mathlib.Core.Path.{◌≡◌, refl}
use mathlib.Core.List.{List, [], ◌∷◌, flatten}
use Prim.Native.Nat.{ℕ}
use lib.ListN.{length}
use Rattle.net.specs.Tests.{all_below, every}
use Rattle.circuit.specs.Refusal.{passed}
use Rattle.circuit.specs.Circuit.{circuit, NoLoop}
use Rattle.circuit.specs.Checks.{check_records}
use Rattle.circuit.proofs.Tables.{Falls, falling_no_loop}
use Rattle.fact.specs.Certificate.{registers, rounds, certificate}
use Rattle.fact.specs.Cases.{Case, CasesHold, case_a, case_b, case_c, case_d, case_e, case_f, case_g, case_h, case_i, case_j, cases}
use Rattle.fact.specs.RequestCases.{case_enable_zero, case_enable_three, case_enable_wide, case_enable_free}
use Rattle.fact.specs.RequestCases.{case_enable_secret, case_enable_itself, case_enable_opens, case_enable_row}
use Rattle.fact.specs.RequestCases.{case_counter, case_enable_bound, case_fixed, request_cases}
use Rattle.fact.specs.RequestCases.{case_zero_and, case_zero_shift, case_zero_less, case_zero_elsewhere}
use Rattle.fact.specs.RequestCases.{case_no_zero, case_gated_bus, case_gate_opens}

-- numbers of A's variables that fall along every wire's uses
abbrev pub ranks_a : List ℕ
ranks_a = 0 ∷ 0 ∷ 0 ∷ 0 ∷ 2 ∷ 1 ∷ 1 ∷ []

-- of wires that use the first four variables alone
abbrev behind_four : List ℕ
behind_four = 0 ∷ 0 ∷ 0 ∷ 0 ∷ 1 ∷ 1 ∷ 1 ∷ 1 ∷ 1 ∷ 1 ∷ 1 ∷ 1 ∷ 1 ∷ 1 ∷ []

-- no row of a case's table is a loop, by numbers that fall
no_loop : (x : Case) (ranks : List ℕ) → check_records (flatten x.records) (length x.records) ≡ passed
    → Falls (flatten x.records) (length x.records) ranks
    → NoLoop (circuit (flatten x.records) (length x.records))
no_loop x = falling_no_loop (flatten x.records) (length x.records)

infixr 20 ◌also◌
-- a product, a line for each part
◌also◌ : {A B : Type 0} → A → B → A × B
x also y = (x, y)

pub cases_hold : CasesHold cases
unfolding flatten circuit check_records rounds registers certificate all_below every
cases_hold =
    (refl, refl, no_loop case_a ranks_a refl tt, refl, refl, refl)
    also (refl, refl, no_loop case_b ranks_a refl tt, refl, refl, refl)
    also (refl, refl, no_loop case_c ranks_a refl tt, refl, refl, refl)
    also (refl, refl, no_loop case_d ranks_a refl tt, refl, refl, refl)
    also (refl, refl, no_loop case_e [] refl tt, refl, refl, refl)
    also (refl, refl, no_loop case_f (0 ∷ 1 ∷ []) refl tt, refl, refl, refl)
    also (refl, refl, no_loop case_g (0 ∷ 0 ∷ 0 ∷ 1 ∷ []) refl tt, refl, refl, refl)
    also (refl, refl, no_loop case_h (0 ∷ 0 ∷ 1 ∷ []) refl tt, refl, refl, refl)
    also (refl, refl, no_loop case_i (0 ∷ 0 ∷ 0 ∷ 1 ∷ 1 ∷ []) refl tt, refl, refl, refl)
    also (refl, refl, no_loop case_j (0 ∷ 1 ∷ []) refl tt, refl, refl, refl)
    also tt

pub request_cases_hold : CasesHold request_cases
unfolding flatten circuit check_records rounds registers certificate all_below every
request_cases_hold =
    (refl, refl, no_loop case_enable_zero [] refl tt, refl, refl, refl)
    also (refl, refl, no_loop case_enable_three [] refl tt, refl, refl, refl)
    also (refl, refl, no_loop case_enable_wide [] refl tt, refl, refl, refl)
    also (refl, refl, no_loop case_enable_free [] refl tt, refl, refl, refl)
    also (refl, refl, no_loop case_enable_secret [] refl tt, refl, refl, refl)
    also (refl, refl, no_loop case_enable_itself [] refl tt, refl, refl, refl)
    also (refl, refl, no_loop case_enable_opens [] refl tt, refl, refl, refl)
    also (refl, refl, no_loop case_enable_row [] refl tt, refl, refl, refl)
    also (refl, refl, no_loop case_counter (0 ∷ 0 ∷ 0 ∷ 1 ∷ []) refl tt, refl, refl, refl)
    also (refl, refl, no_loop case_enable_bound (0 ∷ 1 ∷ []) refl tt, refl, refl, refl)
    also (refl, refl, no_loop case_fixed (0 ∷ 0 ∷ 0 ∷ 0 ∷ 0 ∷ 0 ∷ 1 ∷ 1 ∷ 1 ∷ 0 ∷ 0 ∷ 1 ∷ []) refl tt, refl, refl, refl)
    also (refl, refl, no_loop case_zero_and behind_four refl tt, refl, refl, refl)
    also (refl, refl, no_loop case_zero_shift behind_four refl tt, refl, refl, refl)
    also (refl, refl, no_loop case_zero_less behind_four refl tt, refl, refl, refl)
    also (refl, refl, no_loop case_zero_elsewhere behind_four refl tt, refl, refl, refl)
    also (refl, refl, no_loop case_no_zero behind_four refl tt, refl, refl, refl)
    also (refl, refl, no_loop case_gated_bus (0 ∷ 0 ∷ 1 ∷ 0 ∷ 0 ∷ 1 ∷ []) refl tt, refl, refl, refl)
    also (refl, refl, no_loop case_gate_opens (0 ∷ 0 ∷ 0 ∷ 1 ∷ []) refl tt, refl, refl, refl)
    also tt

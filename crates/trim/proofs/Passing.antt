-- A trimming call that meets none of grounds 20 to 22, from what is lent and given to it.
-- Assumes nothing.
use mathlib.Core.Path.{◌≡◌, refl}
use mathlib.Core.Bool.{false}
use mathlib.Core.List.{List, [], ◌∷◌}
use Prim.Native.Nat.{ℕ, zero, suc, ◌+◌, ◌*◌, ◌/◌, ◌^◌, ◌≤◌, ◌<◌, zero-le, suc-le-suc}
use native.Mathlib.Omega.{arith}
use borrow.Author.Tests.{le-ltb, lt-leb, eq-eqb}
use lib.ListN.{length, get_or}
use Rattle.circuit.specs.Refusal.{passed}
use Rattle.circuit.specs.Number.{u32_at}
use Rattle.circuit.specs.Record.{width}
use Rattle.circuit.specs.Circuit.{circuit, record_of}
use Rattle.circuit.proofs.Tables.{circuit_length}
use Rattle.fact.specs.Fact.{fact_of, fact_at}
use Rattle.trim.specs.Order.{check_kept, bad_fact, check_certificate, check_trim}
use Rattle.trim.specs.Ready.{FactFits}
use Rattle.trim.proofs.Grounds.{facts_pass}

kept_passes : (n : ℕ) (kept : List ℕ) (from : ℕ) → ((i : ℕ) → i < length kept → get_or kept i 0 < n)
    → check_kept n kept from ≡ passed
unfolding check_kept
kept_passes n [] from h = refl
kept_passes n (v ∷ vs) from h =
    rw (lt-leb n v (h zero (suc-le-suc zero-le))) (kept_passes n vs (from + 1) (λ i l. h (suc i) (suc-le-suc l)))

-- a fact byte from 1 to 3 with a fact that fits is not bad
fits_good : (w byte n : ℕ) → 1 ≤ byte → byte ≤ 3 → FactFits w (fact_of byte n) → bad_fact w byte n ≡ false
fits_good w zero n low high fits = absurd (omega arith)
fits_good w (suc zero) n low high fits = lt-leb (2 ^ w) n fits
fits_good w (suc (suc zero)) n low high fits = refl
fits_good w (suc (suc (suc zero))) n low high fits = refl
fits_good w (suc (suc (suc (suc byte)))) n low high fits = absurd (omega arith)

-- where the kept variables are the table's, as much is lent as is asked, and the certificate has a fact for each
-- variable, which fits it, none of grounds 20 to 22 holds
pub trim_passes : (t : List ℕ) (certificate kept : List ℕ) (trimmed numbers : ℕ)
    → let n = length t / 16 in ((i : ℕ) → i < length kept → get_or kept i 0 < n) → length t ≤ trimmed → n ≤ numbers
    → length certificate ≡ n * 8
    → ((v : ℕ) → v < n → (1 ≤ get_or certificate (v * 8) 0) × (get_or certificate (v * 8) 0 ≤ 3)
    × FactFits (width (record_of (circuit t n) v)) (fact_at certificate v))
    → check_trim (length t) (circuit t n) certificate kept trimmed numbers ≡ passed
unfolding check_certificate
trim_passes t certificate kept trimmed numbers below room olds long facts =
    let n = length t / 16 in
    let size = circuit_length t n in
    rw (
      size,
      kept_passes n kept 0 below,
      le-ltb trimmed (length t) room,
      le-ltb numbers n olds,
      eq-eqb (length certificate) (n * 8) long,
    )
    (facts_pass (circuit t n) certificate n 0 (λ v low high.
    let (least, most, fits) = facts v (omega arith) in
    fits_good (width (record_of (circuit t n) v)) (get_or certificate (v * 8) 0) (u32_at certificate (v * 8 + 4)) least most
    fits))

-- Which grounds trimming can find after 11, and at which places.
-- Assumes nothing.
use mathlib.Core.Path.{◌≡◌, refl}
use mathlib.Core.Logic.{◌⊎◌, inl, inr}
use mathlib.Core.Bool.{not, ◌||◌}
use mathlib.Core.List.{List, [], ◌∷◌}
use Prim.Native.Nat.{ℕ, zero, suc, ◌+◌, ◌*◌, ◌/◌, ◌≤◌, ◌<◌}
use native.Mathlib.Omega.{arith}
use lib.Dec.{eqb, leb, ltb}
use lib.ListN.{length}
use Rattle.circuit.specs.declared.refusal.Ground.{Ground}
use Rattle.circuit.specs.declared.refusal.Ground.TheVariants.{NoSuchKept, TrimmedShort, BadCertificate}
use Rattle.circuit.specs.Refusal.{ground_number, passed}
use Rattle.circuit.specs.Circuit.{Circuit}
use Rattle.circuit.proofs.Places.{Refusals, then_refusals, refuse_refusals}
use Rattle.trim.specs.Order.{check_kept, check_room, check_facts_from, check_certificate, check_trim}
use Rattle.trim.proofs.Grounds.{bad_at}

-- ground 20, at the place of a kept number; or 21 or 22, at a place up to the number of records
abbrev pub OfTrim : ℕ → ℕ → Ground → ℕ → Type 0
OfTrim kept n reason place =
    ((ground_number reason ≡ 20) × (place < kept))
    ⊎ ((21 ≤ ground_number reason) × (ground_number reason ≤ 22) × (place ≤ n))

kept_refusals : (n end m : ℕ) (kept : List ℕ) (i : ℕ) → i + length kept ≤ end
    → Refusals (OfTrim end m) (check_kept n kept i)
unfolding check_kept
kept_refusals n end m [] i h = tt
kept_refusals n end m (v ∷ vs) i h =
    refuse_refusals (OfTrim end m) NoSuchKept i (leb n v) _ (inl (refl, omega arith))
    (λ _. kept_refusals n end m vs (i + 1) (omega arith))

facts_refusals : (c : Circuit) (cells : List ℕ) (end n count i : ℕ) → i + count ≤ n
    → Refusals (OfTrim end n) (check_facts_from c cells count i)
unfolding check_facts_from
facts_refusals c cells end n zero i h = tt
facts_refusals c cells end n (suc count) i h =
    refuse_refusals (OfTrim end n) BadCertificate i (bad_at c cells i) _
    (inr (omega arith, omega arith, omega arith))
    (λ _. facts_refusals c cells end n count (i + 1) (omega arith))

pub trim_refusals : (bytes : ℕ) (c : Circuit) (certificate kept : List ℕ) (trimmed numbers : ℕ)
    → Refusals (OfTrim (length kept) (length c)) (check_trim bytes c certificate kept trimmed numbers)
unfolding check_certificate
trim_refusals bytes c certificate kept trimmed numbers =
    let P = OfTrim (length kept) (length c) in
    then_refusals P (check_kept (length c) kept 0) _
    (kept_refusals (length c) (length kept) (length c) kept 0 (omega arith))
    (λ _. then_refusals P (check_room bytes trimmed numbers) _
    (refuse_refusals P TrimmedShort 0 (ltb trimmed bytes || ltb numbers (bytes / 16)) passed
    (inr (omega arith, omega arith, omega arith)) (λ _. tt))
    (λ _. refuse_refusals P BadCertificate 0 (not (eqb (length certificate) (length c * 8))) _
    (inr (omega arith, omega arith, omega arith))
    (λ _. facts_refusals c certificate (length kept) (length c) (length c) 0 (omega arith))))

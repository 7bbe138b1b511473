-- Request S-9: a call that asks four numbers of scratch a record and is lent them, and certify, which asks two, leave
-- equal certificates on the same table and certificate buffer, and have equal counts and refusals, the choice of loop
-- apart.
-- Assumes nothing.
use mathlib.Core.Path.{◌≡◌, refl}
use mathlib.Core.Logic.{◌⊎◌}
use mathlib.Core.List.{List}
use Prim.Native.Nat.{ℕ, ◌*◌, ◌/◌, ◌≤◌}
use native.Mathlib.Omega.{arith}
use lib.ListN.{length}
use Rattle.call.specs.Call.{Left, Answer, lent, left}
use Rattle.call.specs.Rooms.{with_room, IgnoresScratch, RefusedLoop}
use Rattle.call.proofs.Rooms.{promised_in_room, rooms_alike}
use Rattle.certificate.specs.Promise.{room, certifying, Certifies}
use Rattle.certificate.specs.FourAsked.{asking_four, CertifiesInFour}
use Rattle.certificate.proofs.Promise.{certificate_determined}

-- a certificate does not go by the scratch, however much of it is asked
ignores_scratch : (asked : ℕ) (t cells scratch scratch' : List ℕ)
    → IgnoresScratch (with_room asked certifying) (lent t cells scratch) scratch'
ignores_scratch asked t cells scratch scratch' =
    record {
      later = refl;
      accepts = λ o k p.
          record { counts = p.counts; few = p.few; certificate = p.certificate; least = p.least };
    }

module _ (t cells scratch scratch' : List ℕ) (four : length t / 16 * 4 ≤ length scratch)
    (two : length t / 16 * 2 ≤ length scratch') where
  -- equal certificates are left, and the answers, with the count or the refusal, are equal, or both are ground 11
  pub four_as_two : (e e' : Left) (r r' : Answer) → CertifiesInFour (lent t cells scratch) e r
      → Certifies (lent t cells scratch') e' r'
      → (e.outputs ≡ e'.outputs) × ((r ≡ r') ⊎ (RefusedLoop r × RefusedLoop r'))
  four_as_two e e' r r' p q =
      let alike =
      rooms_alike asking_four room (lent t cells scratch) scratch' (omega arith) (omega arith)
      (ignores_scratch 4 t cells scratch scratch') (certificate_determined (lent t cells scratch')) e e'
      r r' p q in
      (alike.outputs, alike.answers)

  -- the premises can be met on every table: of certify's answer and certificate the promise with four holds, with some
  -- scratch left
  pub four_met : (cells' scratch₁ : List ℕ) (r : Answer)
      → Certifies (lent t cells scratch') (left cells' scratch₁) r
      → (scratch₂ : List ℕ) × CertifiesInFour (lent t cells scratch) (left cells' scratch₂) r
  four_met cells' scratch₁ r p =
      promised_in_room certifying 4 (lent t cells scratch') scratch (omega arith) (omega arith)
      (ignores_scratch room t cells scratch' scratch) (left cells' scratch₁) r p

-- The certificate of a table that is trimmed by its certificate, as a second certifying call writes it: the 8 bytes of
-- each variable are those of its old one.
-- Assumes nothing.
use mathlib.Core.Path.{◌≡◌, sym, ap, ◌∙◌}
use mathlib.Core.List.{List}
use Prim.Native.Nat.{ℕ, ◌+◌, ◌*◌, ◌/◌, ◌<◌}
use lib.ListN.{length, take, get_or}
use Rattle.std.specs.Prelude.{Ok}
use Rattle.circuit.specs.Circuit.{Circuit, circuit}
use Rattle.fact.specs.declared.Fact.{Fact}
use Rattle.fact.specs.Fact.{fact_bytes}
use Rattle.fact.specs.Certificate.{certificate}
use Rattle.call.specs.Call.{lent, left}
use Rattle.certificate.specs.Promise.{Certifies}
use Rattle.trim.specs.Promise as trim-call
use Rattle.trim.specs.Promise.{CallTrims}
use Rattle.trim.specs.Trimmed.{replaced, trimmed}
use Rattle.trim.proofs.Certificates.{certificate_follows}
use Rattle.trim.proofs.Accepted.{trimmed_records}
use Rattle.guarantee.proofs.Certified.{certified_inside, fact_written}
use Rattle.guarantee.proofs.Trimming.{own_size, own_circuit, own_numbers, own_below}

module _ {t cells scratch cells' scratch' : List ℕ} {rounds₁ : ℕ}
    (p : Certifies (lent t cells scratch) (left cells' scratch') (Ok rounds₁))
    {kept first second scratch₁ first' numbers scratch₁' : List ℕ} {k : ℕ}
    (q : CallTrims (take (length t / 16 * 8) cells') kept (trim-call.lent t first second scratch₁)
    (trim-call.left first' numbers scratch₁') (Ok k))
    {cells₂ scratch₂ cells₂' scratch₂' : List ℕ} {rounds₂ : ℕ}
    (p' : Certifies (lent (take (k * 16) first') cells₂ scratch₂) (left cells₂' scratch₂') (Ok rounds₂))
  where
    abbrev c : Circuit
    c = circuit t (length t / 16)

    abbrev c₁ : Circuit
    c₁ = replaced c (certificate c)

    -- the trimmed table's certificate has its survivors' lines of the table's certificate
    pub trimmed_certificate : (j m : ℕ) → j < k → m < 8
        → get_or cells₂' (j * 8 + m) 0 ≡ get_or cells' (get_or numbers j 0 * 8 + m) 0
    trimmed_certificate j m below h =
        fact_written p' j m (rw (trimmed_records q) below) h
        ∙ ap (λ (d : Circuit). get_or (fact_bytes (certificate d j)) m 0)
        (own_circuit p q)
        ∙ ap (λ (f : Fact). get_or (fact_bytes f) m 0)
        (certificate_follows c kept (certified_inside p) p.past.no_loop j variable
        ∙ ap (certificate c) (sym (own_numbers p q j below)))
        ∙ sym (fact_written p (get_or numbers j 0) m (own_below p q j below) h)
      where
        variable : j < length (trimmed c₁ kept)
        variable = rw (← own_size p q) below

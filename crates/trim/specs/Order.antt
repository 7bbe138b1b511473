-- Grounds 20, 21 and 22, which trimming tries after ground 11, in order.
-- Assumes nothing.
use Rattle.std.specs.Prelude.{Bool, not, ◌&&◌, ◌||◌, List, [], ◌∷◌, ℕ, zero, suc, ◌+◌, ◌*◌, ◌/◌, ◌^◌, eqb, leb, ltb, length, get_or}
use Rattle.circuit.specs.declared.refusal.Ground.TheVariants.{NoSuchKept, TrimmedShort, BadCertificate}
use Rattle.circuit.specs.Refusal.{Check, passed, refuse, ◌then◌}
use Rattle.circuit.specs.Number.{u32_at}
use Rattle.circuit.specs.Record.{width}
use Rattle.circuit.specs.Circuit.{Circuit, record_of}

-- ground 20, of the kept numbers from number i on: the first that is not below the number of records
unfoldable pub check_kept : ℕ → List ℕ → ℕ → Check
check_kept n [] i = passed
check_kept n (v ∷ vs) i = refuse NoSuchKept i (leb n v) (check_kept n vs (i + 1))

-- ground 21, of the table's length in bytes and of what is lent for the trimmed table and for the list of old numbers
abbrev pub check_room : ℕ → ℕ → ℕ → Check
check_room bytes trimmed numbers = refuse TrimmedShort 0 (ltb trimmed bytes || ltb numbers (bytes / 16)) passed

-- a fact byte outside 1 to 3, or an always number that does not fit the width
abbrev pub bad_fact : ℕ → ℕ → ℕ → Bool
bad_fact w byte n = eqb byte 0 || ltb 3 byte || (eqb byte 1 && leb (2 ^ w) n)

-- ground 22, of the facts of `count` variables from variable i on
unfoldable pub check_facts_from : Circuit → List ℕ → ℕ → ℕ → Check
check_facts_from c cells zero i = passed
check_facts_from c cells (suc count) i =
    refuse BadCertificate i (bad_fact (width (record_of c i)) (get_or cells (i * 8) 0) (u32_at cells (i * 8 + 4)))
    (check_facts_from c cells count (i + 1))

-- ground 22: the certificate's length, then its facts
unfoldable pub check_certificate : Circuit → List ℕ → Check
unfolding check_facts_from
check_certificate c cells =
    refuse BadCertificate 0 (not (eqb (length cells) (length c * 8)))
    (check_facts_from c cells (length c) 0)

-- the grounds in checking order, of a table of so many bytes
abbrev pub check_trim : ℕ → Circuit → List ℕ → List ℕ → ℕ → ℕ → Check
check_trim bytes c certificate kept trimmed numbers =
    check_kept (length c) kept 0
    then check_room bytes trimmed numbers
    then check_certificate c certificate

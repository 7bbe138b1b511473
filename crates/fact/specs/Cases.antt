-- Document 01's cases A to J, C as request S-3 has it, from bytes: the table's 16-byte records, the count of rounds,
-- whether it meets the bound, and the facts that the two name.
-- Assumes nothing.
use Rattle.std.specs.Prelude.{◌≡◌, Bool, true, false, ℕ, ◌*◌, eqb, length}
use mathlib.Core.List.{List, [], ◌∷◌, flatten, map}
use Rattle.circuit.specs.Refusal.{passed}
use Rattle.circuit.specs.Refusal.{◌then◌}
use Rattle.circuit.specs.Circuit.{circuit, NoLoop}
use Rattle.circuit.specs.Checks.{check_length, check_records}
use Rattle.fact.specs.declared.Fact.{Fact}
use Rattle.fact.specs.declared.Fact.TheVariants.{Always, Open, Marked}
use Rattle.fact.specs.Certificate.{registers, rounds, certificate}

-- the count, whether it is twice the registers, and the facts of the variables beside them
pub record Case : Type 0 where
  pub records : List (List ℕ)
  pub rounds : ℕ
  pub bound_met : Bool
  pub variables : List ℕ
  pub facts : List Fact

-- the table meets none of grounds 1, 2 and 5 to 11, and its certificate has the count and the facts
abbrev pub CaseHolds : List ℕ → ℕ → Case → Type 0
CaseHolds t n x =
    (length t ≡ n * 16)
    × ((check_length (length t) then check_records t n) ≡ passed)
    × NoLoop (circuit t n)
    × (rounds (circuit t n) ≡ x.rounds)
    × (eqb (rounds (circuit t n)) (2 * registers (circuit t n)) ≡ x.bound_met)
    × (map (certificate (circuit t n)) x.variables ≡ x.facts)

abbrev pub CasesHold : List Case → Type 0
CasesHold [] = Unit {0}
CasesHold (x ∷ xs) = CaseHolds (flatten x.records) (length x.records) x × CasesHold xs

-- A's seven records, but for record 1, which B, C and D replace
abbrev with_record1 : List ℕ → List (List ℕ)
with_record1 r =
    (0 ∷ 8 ∷ 2 ∷ 0 ∷ 0 ∷ 0 ∷ 0 ∷ 0 ∷ 0 ∷ 0 ∷ 0 ∷ 0 ∷ 0 ∷ 0 ∷ 0 ∷ 0 ∷ [])
    ∷ r
    ∷ (1 ∷ 8 ∷ 0 ∷ 0 ∷ 0 ∷ 0 ∷ 0 ∷ 0 ∷ 0 ∷ 0 ∷ 0 ∷ 0 ∷ 5 ∷ 0 ∷ 0 ∷ 0 ∷ [])
    ∷ (4 ∷ 8 ∷ 0 ∷ 0 ∷ 4 ∷ 0 ∷ 0 ∷ 0 ∷ 0 ∷ 0 ∷ 0 ∷ 0 ∷ 0 ∷ 0 ∷ 0 ∷ 0 ∷ [])
    ∷ (3 ∷ 8 ∷ 0 ∷ 0 ∷ 1 ∷ 0 ∷ 5 ∷ 0 ∷ 3 ∷ 0 ∷ 0 ∷ 0 ∷ 0 ∷ 0 ∷ 0 ∷ 0 ∷ [])
    ∷ (2 ∷ 8 ∷ 0 ∷ 0 ∷ 3 ∷ 0 ∷ 2 ∷ 0 ∷ 0 ∷ 0 ∷ 0 ∷ 0 ∷ 0 ∷ 0 ∷ 0 ∷ 0 ∷ [])
    ∷ (2 ∷ 1 ∷ 5 ∷ 0 ∷ 0 ∷ 0 ∷ 2 ∷ 0 ∷ 0 ∷ 0 ∷ 0 ∷ 0 ∷ 0 ∷ 0 ∷ 0 ∷ 0 ∷ [])
    ∷ []

-- A: record 1 is a free input
abbrev pub case_a : Case
case_a =
    record {
      records = with_record1 (0 ∷ 1 ∷ 1 ∷ 0 ∷ 0 ∷ 0 ∷ 0 ∷ 0 ∷ 0 ∷ 0 ∷ 0 ∷ 0 ∷ 0 ∷ 0 ∷ 0 ∷ 0 ∷ []);
      rounds = 1;
      bound_met = false;
      variables = 0 ∷ 1 ∷ 2 ∷ 3 ∷ 4 ∷ 5 ∷ 6 ∷ [];
      facts = Marked ∷ Open ∷ Always 5 ∷ Open ∷ Open ∷ Open ∷ Marked ∷ [];
    }

-- B: record 1 fixed 0
abbrev pub case_b : Case
case_b =
    record {
      records = with_record1 (0 ∷ 1 ∷ 0 ∷ 0 ∷ 0 ∷ 0 ∷ 0 ∷ 0 ∷ 0 ∷ 0 ∷ 0 ∷ 0 ∷ 0 ∷ 0 ∷ 0 ∷ 0 ∷ []);
      rounds = 0;
      bound_met = false;
      variables = 1 ∷ 3 ∷ 4 ∷ 5 ∷ [];
      facts = Always 0 ∷ Always 0 ∷ Always 0 ∷ Always 5 ∷ [];
    }

-- C: record 1 fixed 1, which is open, as it holds 0 until poked
abbrev pub case_c : Case
case_c =
    record {
      records = with_record1 (0 ∷ 1 ∷ 0 ∷ 0 ∷ 0 ∷ 0 ∷ 0 ∷ 0 ∷ 0 ∷ 0 ∷ 0 ∷ 0 ∷ 1 ∷ 0 ∷ 0 ∷ 0 ∷ []);
      rounds = 1;
      bound_met = false;
      variables = 1 ∷ 3 ∷ 4 ∷ 5 ∷ [];
      facts = Open ∷ Open ∷ Open ∷ Open ∷ [];
    }

-- D: record 1 secret
abbrev pub case_d : Case
case_d =
    record {
      records = with_record1 (0 ∷ 1 ∷ 2 ∷ 0 ∷ 0 ∷ 0 ∷ 0 ∷ 0 ∷ 0 ∷ 0 ∷ 0 ∷ 0 ∷ 0 ∷ 0 ∷ 0 ∷ 0 ∷ []);
      rounds = 1;
      bound_met = false;
      variables = 1 ∷ 3 ∷ 4 ∷ 5 ∷ [];
      facts = Marked ∷ Marked ∷ Marked ∷ Marked ∷ [];
    }

-- E: register p (1) fed by constant 1 (0), register q (2) fed by p
abbrev pub case_e : Case
case_e =
    record {
      records =
          (1 ∷ 1 ∷ 0 ∷ 0 ∷ 0 ∷ 0 ∷ 0 ∷ 0 ∷ 0 ∷ 0 ∷ 0 ∷ 0 ∷ 1 ∷ 0 ∷ 0 ∷ 0 ∷ [])
          ∷ (4 ∷ 1 ∷ 0 ∷ 0 ∷ 0 ∷ 0 ∷ 0 ∷ 0 ∷ 0 ∷ 0 ∷ 0 ∷ 0 ∷ 0 ∷ 0 ∷ 0 ∷ 0 ∷ [])
          ∷ (4 ∷ 1 ∷ 0 ∷ 0 ∷ 1 ∷ 0 ∷ 0 ∷ 0 ∷ 0 ∷ 0 ∷ 0 ∷ 0 ∷ 0 ∷ 0 ∷ 0 ∷ 0 ∷ [])
          ∷ [];
      rounds = 2;
      bound_met = false;
      variables = 1 ∷ 2 ∷ [];
      facts = Open ∷ Open ∷ [];
    }

-- F: register r (0) fed by a multiplexer (1) with control r, B secret (2), C constant 1 (3)
abbrev pub case_f : Case
case_f =
    record {
      records =
          (4 ∷ 1 ∷ 0 ∷ 0 ∷ 1 ∷ 0 ∷ 0 ∷ 0 ∷ 0 ∷ 0 ∷ 0 ∷ 0 ∷ 0 ∷ 0 ∷ 0 ∷ 0 ∷ [])
          ∷ (3 ∷ 1 ∷ 0 ∷ 0 ∷ 0 ∷ 0 ∷ 2 ∷ 0 ∷ 3 ∷ 0 ∷ 0 ∷ 0 ∷ 0 ∷ 0 ∷ 0 ∷ 0 ∷ [])
          ∷ (0 ∷ 1 ∷ 2 ∷ 0 ∷ 0 ∷ 0 ∷ 0 ∷ 0 ∷ 0 ∷ 0 ∷ 0 ∷ 0 ∷ 0 ∷ 0 ∷ 0 ∷ 0 ∷ [])
          ∷ (1 ∷ 1 ∷ 0 ∷ 0 ∷ 0 ∷ 0 ∷ 0 ∷ 0 ∷ 0 ∷ 0 ∷ 0 ∷ 0 ∷ 1 ∷ 0 ∷ 0 ∷ 0 ∷ [])
          ∷ [];
      rounds = 2;
      bound_met = true;
      variables = 0 ∷ [];
      facts = Marked ∷ [];
    }

-- G: multiplexer width 1 (3), secret control (0), arms constants 1 (1) and 3 (2) of width 2
abbrev pub case_g : Case
case_g =
    record {
      records =
          (0 ∷ 1 ∷ 2 ∷ 0 ∷ 0 ∷ 0 ∷ 0 ∷ 0 ∷ 0 ∷ 0 ∷ 0 ∷ 0 ∷ 0 ∷ 0 ∷ 0 ∷ 0 ∷ [])
          ∷ (1 ∷ 2 ∷ 0 ∷ 0 ∷ 0 ∷ 0 ∷ 0 ∷ 0 ∷ 0 ∷ 0 ∷ 0 ∷ 0 ∷ 1 ∷ 0 ∷ 0 ∷ 0 ∷ [])
          ∷ (1 ∷ 2 ∷ 0 ∷ 0 ∷ 0 ∷ 0 ∷ 0 ∷ 0 ∷ 0 ∷ 0 ∷ 0 ∷ 0 ∷ 3 ∷ 0 ∷ 0 ∷ 0 ∷ [])
          ∷ (3 ∷ 1 ∷ 0 ∷ 0 ∷ 0 ∷ 0 ∷ 1 ∷ 0 ∷ 2 ∷ 0 ∷ 0 ∷ 0 ∷ 0 ∷ 0 ∷ 0 ∷ 0 ∷ [])
          ∷ [];
      rounds = 0;
      bound_met = true;
      variables = 3 ∷ [];
      facts = Always 1 ∷ [];
    }

-- H: width 4, 2 - 5
abbrev pub case_h : Case
case_h =
    record {
      records =
          (1 ∷ 4 ∷ 0 ∷ 0 ∷ 0 ∷ 0 ∷ 0 ∷ 0 ∷ 0 ∷ 0 ∷ 0 ∷ 0 ∷ 2 ∷ 0 ∷ 0 ∷ 0 ∷ [])
          ∷ (1 ∷ 4 ∷ 0 ∷ 0 ∷ 0 ∷ 0 ∷ 0 ∷ 0 ∷ 0 ∷ 0 ∷ 0 ∷ 0 ∷ 5 ∷ 0 ∷ 0 ∷ 0 ∷ [])
          ∷ (2 ∷ 4 ∷ 1 ∷ 0 ∷ 0 ∷ 0 ∷ 1 ∷ 0 ∷ 0 ∷ 0 ∷ 0 ∷ 0 ∷ 0 ∷ 0 ∷ 0 ∷ 0 ∷ [])
          ∷ [];
      rounds = 0;
      bound_met = true;
      variables = 2 ∷ [];
      facts = Always 13 ∷ [];
    }

-- I: width 32, 1 times 2^31, and by 32
abbrev pub case_i : Case
case_i =
    record {
      records =
          (1 ∷ 32 ∷ 0 ∷ 0 ∷ 0 ∷ 0 ∷ 0 ∷ 0 ∷ 0 ∷ 0 ∷ 0 ∷ 0 ∷ 1 ∷ 0 ∷ 0 ∷ 0 ∷ [])
          ∷ (1 ∷ 32 ∷ 0 ∷ 0 ∷ 0 ∷ 0 ∷ 0 ∷ 0 ∷ 0 ∷ 0 ∷ 0 ∷ 0 ∷ 31 ∷ 0 ∷ 0 ∷ 0 ∷ [])
          ∷ (1 ∷ 32 ∷ 0 ∷ 0 ∷ 0 ∷ 0 ∷ 0 ∷ 0 ∷ 0 ∷ 0 ∷ 0 ∷ 0 ∷ 32 ∷ 0 ∷ 0 ∷ 0 ∷ [])
          ∷ (2 ∷ 32 ∷ 7 ∷ 0 ∷ 0 ∷ 0 ∷ 1 ∷ 0 ∷ 0 ∷ 0 ∷ 0 ∷ 0 ∷ 0 ∷ 0 ∷ 0 ∷ 0 ∷ [])
          ∷ (2 ∷ 32 ∷ 7 ∷ 0 ∷ 0 ∷ 0 ∷ 2 ∷ 0 ∷ 0 ∷ 0 ∷ 0 ∷ 0 ∷ 0 ∷ 0 ∷ 0 ∷ 0 ∷ [])
          ∷ [];
      rounds = 0;
      bound_met = true;
      variables = 3 ∷ 4 ∷ [];
      facts = Always 2147483648 ∷ Always 0 ∷ [];
    }

-- J: a secret xor itself
abbrev pub case_j : Case
case_j =
    record {
      records =
          (0 ∷ 8 ∷ 2 ∷ 0 ∷ 0 ∷ 0 ∷ 0 ∷ 0 ∷ 0 ∷ 0 ∷ 0 ∷ 0 ∷ 0 ∷ 0 ∷ 0 ∷ 0 ∷ [])
          ∷ (2 ∷ 8 ∷ 4 ∷ 0 ∷ 0 ∷ 0 ∷ 0 ∷ 0 ∷ 0 ∷ 0 ∷ 0 ∷ 0 ∷ 0 ∷ 0 ∷ 0 ∷ 0 ∷ [])
          ∷ [];
      rounds = 0;
      bound_met = true;
      variables = 1 ∷ [];
      facts = Marked ∷ [];
    }

abbrev pub cases : List Case
cases = case_a ∷ case_b ∷ case_c ∷ case_d ∷ case_e ∷ case_f ∷ case_g ∷ case_h ∷ case_i ∷ case_j ∷ []

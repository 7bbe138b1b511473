-- Paths and refusals on ground 23, computed under the certificate.
-- Assumes nothing.
use Rattle.std.specs.Prelude.{◌≡◌, refl, ℕ, length}
use mathlib.Core.List.{List, [], ◌∷◌, flatten, map}
use Rattle.circuit.specs.declared.record.InputKind.TheVariants.{Free, Secret}
use Rattle.circuit.specs.declared.record.Record.TheVariants.{Input, Constant, Operator, Multiplexer}
use Rattle.circuit.specs.declared.record.Record.TheVariants.{Register, Enabled}
use Rattle.circuit.specs.declared.operator.Operator.TheVariants.{Add, And}
use Rattle.circuit.specs.Circuit.{Circuit, circuit}
use Rattle.circuit.specs.Faults.{told}
use Rattle.fact.specs.Cases.{case_a, case_d}
use Rattle.fact.specs.Certificate.{certificate}
use Rattle.path.specs.Promise.{check_marked}
use Rattle.path.specs.Lowest.{path_within}

-- the path of a variable under the certificate; none where there is no row
abbrev path_in : Circuit → ℕ → List ℕ
path_in c v = path_within c (certificate c) (length c) v

-- ---- document 01's tables

-- case A, whose comparison (6) uses the secret input (0)
abbrev block_a : Circuit
block_a = circuit (flatten case_a.records) 7

-- case D, where the multiplexer's control (1) is a secret input too
abbrev block_d : Circuit
block_d = circuit (flatten case_d.records) 7

-- a secret input is its own path (0)
pub case_A_paths : map (path_in block_a) (0 ∷ 6 ∷ []) ≡ (0 ∷ []) ∷ (6 ∷ 0 ∷ []) ∷ []
unfolding flatten circuit certificate path_within
case_A_paths = refl

-- the sum (5), the multiplexer (4) and the register that it feeds (3)
pub case_D_paths : map (path_in block_d) (5 ∷ 4 ∷ 3 ∷ []) ≡ (5 ∷ 3 ∷ 4 ∷ 1 ∷ []) ∷ (4 ∷ 1 ∷ []) ∷ (3 ∷ 4 ∷ 1 ∷ []) ∷ []
unfolding flatten circuit certificate path_within
case_D_paths = refl

-- ---- multiplexers

-- a secret input (0), the constants 0 (1) and 1 (2), a register of the secret (3), and multiplexers: by 0 the second
-- arm is taken (4, 5), by 1 the first (6, 7), which is the register (4, 6) or the secret itself (5, 7)
abbrev tied : Circuit
tied =
    Input 8 Secret
    ∷ Constant 1 0
    ∷ Constant 1 1
    ∷ Register 8 0 0
    ∷ Multiplexer 8 1 0 3
    ∷ Multiplexer 8 1 3 0
    ∷ Multiplexer 8 2 3 0
    ∷ Multiplexer 8 2 0 3
    ∷ []

-- the arm that is passed over is not used, even where it would be a shorter row
pub tied_paths : map (path_in tied) (4 ∷ 5 ∷ 6 ∷ 7 ∷ [])
    ≡ (4 ∷ 3 ∷ 0 ∷ []) ∷ (5 ∷ 0 ∷ []) ∷ (6 ∷ 3 ∷ 0 ∷ []) ∷ (7 ∷ 0 ∷ []) ∷ []
unfolding certificate path_within
tied_paths = refl

-- a secret input (0), the constants 3 (1) and 5 (2), a register of the secret (3), a free input (4), and multiplexers:
-- of the constants by the secret (5) and by 3 (6), of a constant and the secret by 3 (7) and by the free input (8)
abbrev chosen : Circuit
chosen =
    Input 1 Secret
    ∷ Constant 8 3
    ∷ Constant 8 5
    ∷ Register 1 0 0
    ∷ Input 1 Free
    ∷ Multiplexer 8 0 1 2
    ∷ Multiplexer 8 3 1 2
    ∷ Multiplexer 8 3 1 0
    ∷ Multiplexer 8 4 1 0
    ∷ []

-- a marked control is used, and so are both arms where the control is not always a number
pub chosen_paths : map (path_in chosen) (5 ∷ 6 ∷ 7 ∷ 8 ∷ [])
    ≡ (5 ∷ 0 ∷ []) ∷ (6 ∷ 3 ∷ 0 ∷ []) ∷ (7 ∷ 0 ∷ []) ∷ (8 ∷ 0 ∷ []) ∷ []
unfolding certificate path_within
chosen_paths = refl

-- ---- registers

-- a secret input (0), a free one (1), a register of the secret (2), and registers with an enable: of the secret by the
-- free one (3), of the free one by the secret (4), of 4 by 2 (5) and of 2 by 4 (6)
abbrev loaded : Circuit
loaded =
    Input 1 Secret
    ∷ Input 1 Free
    ∷ Register 1 0 0
    ∷ Enabled 1 0 1 0
    ∷ Enabled 1 1 0 0
    ∷ Enabled 1 4 2 0
    ∷ Enabled 1 2 4 0
    ∷ []

-- a register's data is used, and so is its enable; of the two the lower, where either row is as short
pub loaded_paths : map (path_in loaded) (2 ∷ 3 ∷ 4 ∷ 5 ∷ 6 ∷ [])
    ≡ (2 ∷ 0 ∷ []) ∷ (3 ∷ 0 ∷ []) ∷ (4 ∷ 0 ∷ []) ∷ (5 ∷ 2 ∷ 0 ∷ []) ∷ (6 ∷ 2 ∷ 0 ∷ []) ∷ []
unfolding certificate path_within
loaded_paths = refl

-- a ring of two registers (0, 1) and a sum (2) with a secret input (3), and a register that takes itself (4)
abbrev ring : Circuit
ring = Register 8 2 0 ∷ Register 8 0 0 ∷ Operator 8 Add 1 3 ∷ Input 8 Secret ∷ Register 8 4 0 ∷ []

-- a path leaves a loop through registers; what is always 0 has none
pub ring_paths : map (path_in ring) (0 ∷ 1 ∷ 2 ∷ 4 ∷ [])
    ≡ (0 ∷ 2 ∷ 3 ∷ []) ∷ (1 ∷ 0 ∷ 2 ∷ 3 ∷ []) ∷ (2 ∷ 3 ∷ []) ∷ [] ∷ []
unfolding certificate path_within
ring_paths = refl

-- ---- the lowest of the shortest

-- secret inputs (0, 1), registers of 1 (2) and of 0 (3), the sum of these (4) and of the secrets (5), and a register
-- of 4 (6)
abbrev forked : Circuit
forked =
    Input 8 Secret
    ∷ Input 8 Secret
    ∷ Register 8 1 0
    ∷ Register 8 0 0
    ∷ Operator 8 Add 3 2
    ∷ Operator 8 Add 1 0
    ∷ Register 8 4 0
    ∷ []

-- of equally short rows the number at the first difference decides, and not the secret input at the end
pub forked_paths : map (path_in forked) (4 ∷ 5 ∷ 6 ∷ [])
    ≡ (4 ∷ 2 ∷ 1 ∷ []) ∷ (5 ∷ 0 ∷ []) ∷ (6 ∷ 4 ∷ 2 ∷ 1 ∷ []) ∷ []
unfolding certificate path_within
forked_paths = refl

-- a secret input (0), registers of 3 (1), of 0 (2) and of 2 (3), the sum of 1 and 2 (4), the constant 0 (5), its
-- bitwise and with the secret (6), which is always 0, a register of 0 (7), and the sum of 6 and 7 (8)
abbrev detour : Circuit
detour =
    Input 8 Secret
    ∷ Register 8 3 0
    ∷ Register 8 0 0
    ∷ Register 8 2 0
    ∷ Operator 8 Add 1 2
    ∷ Constant 8 0
    ∷ Operator 8 And 0 5
    ∷ Register 8 0 0
    ∷ Operator 8 Add 6 7
    ∷ []

-- the lowest use is passed over where it is on no shortest row (4), and where it is not marked (8)
pub detour_paths : map (path_in detour) (4 ∷ 1 ∷ 8 ∷ [])
    ≡ (4 ∷ 2 ∷ 0 ∷ []) ∷ (1 ∷ 3 ∷ 2 ∷ 0 ∷ []) ∷ (8 ∷ 7 ∷ 0 ∷ []) ∷ []
unfolding certificate path_within
detour_paths = refl

-- ---- ground 23

-- case A's marked variables pass (0, 6); those that are open or always a number do not (1 to 5), nor does the number
-- of records, nor the greatest number that can be given
pub case_A_refusals : map (λ v. told (check_marked block_a v)) (0 ∷ 1 ∷ 2 ∷ 3 ∷ 4 ∷ 5 ∷ 6 ∷ 7 ∷ 4294967295 ∷ [])
    ≡ []
    ∷ (23 ∷ 1 ∷ [])
    ∷ (23 ∷ 2 ∷ [])
    ∷ (23 ∷ 3 ∷ [])
    ∷ (23 ∷ 4 ∷ [])
    ∷ (23 ∷ 5 ∷ [])
    ∷ []
    ∷ (23 ∷ 7 ∷ [])
    ∷ (23 ∷ 4294967295 ∷ [])
    ∷ []
unfolding flatten circuit certificate
case_A_refusals = refl

-- case D's sum, multiplexer and register pass
pub case_D_passes : map (λ v. told (check_marked block_d v)) (5 ∷ 4 ∷ 3 ∷ []) ≡ [] ∷ [] ∷ [] ∷ []
unfolding flatten circuit certificate
case_D_passes = refl

-- an empty table has no variable 0
pub empty_refusal : told (check_marked [] 0) ≡ 23 ∷ 0 ∷ []
unfolding certificate
empty_refusal = refl

-- What the parts of the path call leave in the row, for their contracts.
-- Assumes nothing.
use Rattle.std.specs.Prelude.{◌≡◌, Ok, Err, List, ◌++◌, ℕ, ◌≤◌, length, drop}
use Rattle.circuit.specs.Refusal.{passed}
use Rattle.circuit.specs.Circuit.{Circuit}
use Rattle.fact.specs.Certificate.{certificate}
use Rattle.call.specs.Call.{Answer}
use Rattle.path.specs.Row.{PathOf}
use Rattle.path.specs.Promise.{check_marked}

-- v's path, of k variables, stands in front of the row, and what lies past it is as it was
pub record WritesPath (c : Circuit) (n v : ℕ) (entry exit : List ℕ) (k : ℕ) : Type 0 where
  pub row : List ℕ
  pub path : PathOf c (certificate c) v row
  pub row_length : length row ≡ k
  pub fits : k ≤ n
  pub written : exit ≡ row ++ drop k entry

-- where ground 23 does not hold the path is written; else it is refused, and the row is as it was
abbrev pub TracesMarked : Circuit → ℕ → ℕ → List ℕ → List ℕ → Answer → Type 0
TracesMarked c n v entry exit (Ok k) =
    (check_marked c v ≡ passed) × WritesPath c n v entry exit k
TracesMarked c n v entry exit (Err r) =
    (check_marked c v ≡ Err r) × (exit ≡ entry)

-- What the programs print: numbers in base ten, the lines of a refusal, of a certificate, of values, of a bill, of old
-- numbers and of a path. A text is the list of its bytes, in ASCII; each word below has its characters beside it.
-- Assumes nothing.
use Rattle.std.specs.Prelude.{true, false, Ok, Err, List, [], ◌∷◌, ◌++◌, ℕ, zero, suc, ◌+◌, ◌-◌, ◌/◌, ◌%◌, eqb, ltb, get_or}
use Rattle.circuit.specs.declared.refusal.Ground.{Ground}
use Rattle.circuit.specs.Refusal.{ground_number}
use Rattle.fact.specs.declared.Fact.{Fact}
use Rattle.fact.specs.declared.Fact.TheVariants.{Always, Open, Marked}
use Rattle.fact.specs.Fact.{fact_at}
use Rattle.call.specs.Call.{Answer}

-- the digits of n in base ten, the most significant first; `fuel` is enough where it is more than n
unfoldable pub digits : ℕ → ℕ → List ℕ
digits zero n = []
digits (suc fuel) n = elim (ltb n 10) [ true ↦ (48 + n) ∷ [] | false ↦ digits fuel (n / 10) ++ ((48 + n % 10) ∷ []) ]

-- n in base ten
unfoldable pub decimal : ℕ → List ℕ
unfolding digits
decimal n = digits (suc n) n

-- the newline that ends every line
abbrev pub newline : List ℕ
newline = 10 ∷ []

-- " "
abbrev pub space : List ℕ
space = 32 ∷ []

-- "refused "
abbrev pub is_refused : List ℕ
is_refused = 114 ∷ 101 ∷ 102 ∷ 117 ∷ 115 ∷ 101 ∷ 100 ∷ 32 ∷ []

-- " at "
abbrev pub at : List ℕ
at = 32 ∷ 97 ∷ 116 ∷ 32 ∷ []

-- "rounds "
abbrev pub rounds : List ℕ
rounds = 114 ∷ 111 ∷ 117 ∷ 110 ∷ 100 ∷ 115 ∷ 32 ∷ []

-- "bill "
abbrev pub bill : List ℕ
bill = 98 ∷ 105 ∷ 108 ∷ 108 ∷ 32 ∷ []

-- " always "
abbrev pub always : List ℕ
always = 32 ∷ 97 ∷ 108 ∷ 119 ∷ 97 ∷ 121 ∷ 115 ∷ 32 ∷ []

-- " open"
abbrev pub is_open : List ℕ
is_open = 32 ∷ 111 ∷ 112 ∷ 101 ∷ 110 ∷ []

-- " marked"
abbrev pub is_marked : List ℕ
is_marked = 32 ∷ 109 ∷ 97 ∷ 114 ∷ 107 ∷ 101 ∷ 100 ∷ []

-- a refusal's line: its number and place
abbrev pub refusal_line : Ground → ℕ → List ℕ
refusal_line g place = is_refused ++ (decimal (ground_number g) ++ (at ++ (decimal place ++ newline)))

-- `count` pieces of text, of the numbers from i on
unfoldable pub pieces : (ℕ → List ℕ) → ℕ → ℕ → List ℕ
pieces text zero i = []
pieces text (suc count) i = text i ++ pieces text count (i + 1)

-- number i of a buffer with a space before it
abbrev pub spaced : List ℕ → ℕ → List ℕ
spaced s i = space ++ decimal (get_or s i 0)

-- the line of a loop or a path: the first numbers of its buffer, as many as it has, single spaces between
abbrev pub row_line : List ℕ → ℕ → List ℕ
row_line s size = decimal (get_or s 0 0) ++ (pieces (spaced s) (size - 1) 1 ++ newline)

-- a fact and, for always, its number
abbrev pub fact_text : Fact → List ℕ
fact_text (Always n) = always ++ decimal n
fact_text Open = is_open
fact_text Marked = is_marked

-- a variable's line
abbrev pub fact_line : ℕ → Fact → List ℕ
fact_line v f = decimal v ++ (fact_text f ++ newline)

-- the lines of n variables, from a certificate's bytes
abbrev pub fact_lines : List ℕ → ℕ → List ℕ
fact_lines cells n = pieces (λ v. fact_line v (fact_at cells v)) n 0

-- a number's line with its index: a variable's value, or a size's share
abbrev pub value_line : ℕ → ℕ → List ℕ
value_line v x = decimal v ++ (space ++ (decimal x ++ newline))

-- the lines of n numbers: the values that a bench run writes, or the shares of an order
abbrev pub value_lines : List ℕ → ℕ → List ℕ
value_lines values n = pieces (λ v. value_line v (get_or values v 0)) n 0

-- the lines of n numbers, one a line: the old numbers of a trimmed table's records
abbrev pub number_lines : List ℕ → ℕ → List ℕ
number_lines numbers n = pieces (λ i. decimal (get_or numbers i 0) ++ newline) n 0

-- the line of a number with a word before it
abbrev pub number_line : List ℕ → ℕ → List ℕ
number_line word k = word ++ (decimal k ++ newline)

-- the line of the count of rounds
abbrev pub rounds_line : ℕ → List ℕ
rounds_line k = number_line rounds k

-- a refusal's lines: for ground 11 a second line has the loop that the scratch shows
unfoldable pub refusal_text : Ground → ℕ → List ℕ → List ℕ
refusal_text g place s =
    elim (eqb (ground_number g) 11) [
      | true ↦ refusal_line g place ++ row_line s place
      | false ↦ refusal_line g place
    ]

-- all that is printed of an accepted table of n records: from the certificate's bytes and the rounds
abbrev pub certified_text : List ℕ → ℕ → ℕ → List ℕ
certified_text cells n k = rounds_line k ++ fact_lines cells n

-- all that is printed of an accepted list on a table of n records: from the values
abbrev pub benched_text : List ℕ → ℕ → ℕ → List ℕ
benched_text values n k = value_lines values n

-- all that is printed of an order of n sizes that is billed: the bill, and each size's share
abbrev pub billed_text : List ℕ → ℕ → ℕ → List ℕ
billed_text shares n k = number_line bill k ++ value_lines shares n

-- all that is printed of a marked variable's path, of k variables: from the row
abbrev pub path_text : List ℕ → ℕ → ℕ → List ℕ
path_text row n k = row_line row k

-- all that is printed of an answer: what an accepted one shows by the number that it carries, or a refusal
abbrev pub answer_text : (ℕ → List ℕ) → Answer → List ℕ → List ℕ
answer_text shown (Ok k) s = shown k
answer_text shown (Err r) s = refusal_text r.reason r.place s

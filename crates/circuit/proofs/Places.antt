-- The numbers of refusals: a ground has its own, of at most two digits; the place of one of grounds 1 to 10 is 0 or a
-- record of the table, that of one of 12 to 17 is 0 or a stimulus of the list.
-- Assumes nothing.
use Rattle.std.proofs.Common.{◌≡◌, ℕ, zero, suc, ◌+◌, ◌-◌, ◌*◌, ◌/◌, ◌%◌, ◌^◌, ◌<◌, ◌≤◌, Bool, true, false, not, ◌&&◌, ◌||◌, eqb, ltb, leb, List, [], ◌∷◌, length, get_or, sym, refl, ap, ◌∙◌, subst, ap₂, arith, ltb-false}
use borrow.Author.Tests.{not-false}
use Rattle.net.specs.Tests.{every}
use Rattle.net.specs.declared.Stimulus.{Stimulus}
use Rattle.net.specs.declared.Stimulus.TheVariants.{Poke, Tick}
use Rattle.circuit.specs.declared.refusal.Ground.{Ground}
use Rattle.circuit.specs.declared.refusal.Ground.TheVariants.{TableTooLong, TableNotWhole, OutputShort, ScratchShort, UnknownKind, BadWidth, UnknownCode, UnusedNotZero, NoSuchVariable, ValueTooWide, Loop, StimuliNotWhole, TooManyStimuli, BadStimulus, NotAnInput, PokeTooWide, FixedInput, TooManySizes, SizeTooLarge}
use Rattle.circuit.specs.declared.refusal.Ground.TheVariants.{NoSuchKept, TrimmedShort, BadCertificate, NotMarked, ForeignCertificate}
use Rattle.circuit.specs.Refusal.{Check}
use Rattle.std.specs.Prelude.{Ok, Err}
use Rattle.circuit.specs.Refusal.{passed, refused}
use Rattle.circuit.specs.declared.record.Fields.{Fields}
use Rattle.std.specs.Prelude.{Ok, Err}
use Rattle.circuit.specs.declared.record.Record.{Record}
use Rattle.std.specs.Prelude.{Result}
use Rattle.std.specs.Prelude.{Ok, Err}
use Rattle.circuit.specs.Refusal.{ground_number, refuse, Finds, ◌then◌}
use Rattle.circuit.specs.Record.{width, uses, input_of}
use Rattle.circuit.specs.Reading.{fields_at, decode, codes, unused, refuse_record, read_record}
use Rattle.circuit.specs.Circuit.{Circuit, record_of}
use Rattle.circuit.specs.Checks.{check_length, check_output, check_scratch, at_record, check_records_from, check_records, Asked, check_outputs, check_call}
use Rattle.circuit.specs.Stimuli.{bad_stimulus, stimulus_at, read_from, is_input, fixed_to_other, read_stimulus, check_stimulus, check_stimuli_from, check_stimuli}
use Rattle.circuit.proofs.Passing.{length_most}

-- the grounds in the order of their numbers, from number 1 on
abbrev grounds : List Ground
grounds =
    TableTooLong
    ∷ TableNotWhole
    ∷ OutputShort
    ∷ ScratchShort
    ∷ UnknownKind
    ∷ BadWidth
    ∷ UnknownCode
    ∷ UnusedNotZero
    ∷ NoSuchVariable
    ∷ ValueTooWide
    ∷ Loop
    ∷ StimuliNotWhole
    ∷ TooManyStimuli
    ∷ BadStimulus
    ∷ NotAnInput
    ∷ PokeTooWide
    ∷ FixedInput
    ∷ TooManySizes
    ∷ SizeTooLarge
    ∷ NoSuchKept
    ∷ TrimmedShort
    ∷ BadCertificate
    ∷ NotMarked
    ∷ ForeignCertificate
    ∷ []

abbrev numbered : ℕ → Ground
numbered number = get_or grounds (number - 1) ForeignCertificate

-- a ground has its number's place among them
ground_number_lem : (reason : Ground)
    → (numbered (ground_number reason) ≡ reason) × (1 ≤ ground_number reason) × (ground_number reason ≤ 99)
ground_number_lem TableTooLong = (refl, omega arith, omega arith)
ground_number_lem TableNotWhole = (refl, omega arith, omega arith)
ground_number_lem OutputShort = (refl, omega arith, omega arith)
ground_number_lem ScratchShort = (refl, omega arith, omega arith)
ground_number_lem UnknownKind = (refl, omega arith, omega arith)
ground_number_lem BadWidth = (refl, omega arith, omega arith)
ground_number_lem UnknownCode = (refl, omega arith, omega arith)
ground_number_lem UnusedNotZero = (refl, omega arith, omega arith)
ground_number_lem NoSuchVariable = (refl, omega arith, omega arith)
ground_number_lem ValueTooWide = (refl, omega arith, omega arith)
ground_number_lem Loop = (refl, omega arith, omega arith)
ground_number_lem StimuliNotWhole = (refl, omega arith, omega arith)
ground_number_lem TooManyStimuli = (refl, omega arith, omega arith)
ground_number_lem BadStimulus = (refl, omega arith, omega arith)
ground_number_lem NotAnInput = (refl, omega arith, omega arith)
ground_number_lem PokeTooWide = (refl, omega arith, omega arith)
ground_number_lem FixedInput = (refl, omega arith, omega arith)
ground_number_lem TooManySizes = (refl, omega arith, omega arith)
ground_number_lem SizeTooLarge = (refl, omega arith, omega arith)
ground_number_lem NoSuchKept = (refl, omega arith, omega arith)
ground_number_lem TrimmedShort = (refl, omega arith, omega arith)
ground_number_lem BadCertificate = (refl, omega arith, omega arith)
ground_number_lem NotMarked = (refl, omega arith, omega arith)
ground_number_lem ForeignCertificate = (refl, omega arith, omega arith)

pub ground_range : (reason : Ground) → (1 ≤ ground_number reason) × (ground_number reason ≤ 99)
ground_range reason = let n = ground_number_lem reason in (n.1, n.2)

-- a ground's number tells it
pub ground_told : (g h : Ground) → ground_number g ≡ ground_number h → g ≡ h
ground_told g h e = sym (ground_number_lem g).0 ∙ ap numbered e ∙ (ground_number_lem h).0

-- what a check finds by its number is what it is refused on
pub refused_finds : {c : Check} {reason : Ground} {place : ℕ} → c ≡ refused reason place
    → Finds c (ground_number reason) place
refused_finds e = rw e (refl, refl)

finds_refused : (c : Check) (reason : Ground) (place : ℕ) → Finds c (ground_number reason) place
    → c ≡ refused reason place
finds_refused (Ok u) reason place f = absurd f
finds_refused (Err r) reason place f = ap₂ refused (ground_told r.reason reason f.0) f.1

-- ---- the ground and the place of a refusal

-- what P says of a ground and a place holds of a check's refusal, if it is one
abbrev pub Refusals : (Ground → ℕ → Type 0) → Check → Type 0
Refusals P (Ok u) = Unit {0}
Refusals P (Err r) = P r.reason r.place

-- so it holds of what the check finds
pub refusal_found : (P : Ground → ℕ → Type 0) (c : Check) (reason : Ground) (place : ℕ) → Refusals P c
    → Finds c (ground_number reason) place → P reason place
refusal_found P c reason place h f = subst (λ (x : Check). Refusals P x) (finds_refused c reason place f) h

pub refusals_weaken : (P Q : Ground → ℕ → Type 0) (c : Check)
    → ((reason : Ground) (place : ℕ) → P reason place → Q reason place) → Refusals P c → Refusals Q c
refusals_weaken P Q (Ok u) w h = tt
refusals_weaken P Q (Err r) w h = w r.reason r.place h

module _ (P : Ground → ℕ → Type 0) where
  -- the first refusal of two checks is that of one of them, of the second only where the first passes
  pub then_refusals : (a b : Check) → Refusals P a → (a ≡ passed → Refusals P b) → Refusals P (a then b)
  then_refusals (Ok u) b h k = k refl
  then_refusals (Err r) b h k = h

  -- the refusal of a test is its own where it holds, else that of what is tried next
  pub refuse_tested : (reason : Ground) (place : ℕ) (b : Bool) (next : Check) → (b ≡ true → P reason place)
      → (b ≡ false → Refusals P next) → Refusals P (refuse reason place b next)
  refuse_tested reason place true next h k = h refl
  refuse_tested reason place false next h k = k refl

  pub refuse_refusals : (reason : Ground) (place : ℕ) (b : Bool) (next : Check) → P reason place
      → (b ≡ false → Refusals P next) → Refusals P (refuse reason place b next)
  refuse_refusals reason place b next h k = refuse_tested reason place b next (λ _. h) k

-- ---- grounds 1 to 10

-- one of them, at a place up to `end`
abbrev OfTable : ℕ → Ground → ℕ → Type 0
OfTable end reason place = (ground_number reason ≤ 10) × (place ≤ end)

-- whatever the six tests of a record say
tests_refusals : (b₅ b₆ b₇ b₈ b₉ b₁₀ : Bool) (r : Record) (i end : ℕ) → i ≤ end
    → Refusals (OfTable end)
    (at_record
    (refuse_record UnknownKind b₅
    (refuse_record BadWidth b₆
    (refuse_record UnknownCode b₇
    (refuse_record UnusedNotZero b₈
    (refuse_record NoSuchVariable b₉
    (refuse_record ValueTooWide b₁₀ (Ok r))))))) i)
tests_refusals true b₆ b₇ b₈ b₉ b₁₀ r i end h = (omega arith, h)
tests_refusals false true b₇ b₈ b₉ b₁₀ r i end h = (omega arith, h)
tests_refusals false false true b₈ b₉ b₁₀ r i end h = (omega arith, h)
tests_refusals false false false true b₉ b₁₀ r i end h = (omega arith, h)
tests_refusals false false false false true b₁₀ r i end h = (omega arith, h)
tests_refusals false false false false false true r i end h = (omega arith, h)
tests_refusals false false false false false false r i end h = tt

record_refusals : (f : Fields) (n i end : ℕ) → i ≤ end → Refusals (OfTable end) (at_record (read_record f n) i)
unfolding read_record
record_refusals f n =
    tests_refusals (ltb 5 f.kind) (eqb f.width 0 || ltb 32 f.width) (leb (codes f.kind) f.code)
    (not (every (λ x. eqb x 0) (f.byte3 ∷ f.bytes10 ∷ unused (decode f) f)))
    (not (every (λ v. ltb v n) (uses (decode f)))) (leb (2 ^ f.width) f.value) (decode f)

records_refusals : (t : List ℕ) (n count i end : ℕ) → i + count ≤ end
    → Refusals (OfTable end) (check_records_from t n count i)
unfolding check_records_from
records_refusals t n zero i end h = tt
records_refusals t n (suc count) i end h =
    then_refusals (OfTable end) (at_record (read_record (fields_at t (i * 16)) n) i) _
    (record_refusals (fields_at t (i * 16)) n i end (omega arith))
    (λ e. records_refusals t n count (i + 1) end (omega arith))

outputs_refusals : (n end : ℕ) (outputs : List Asked) (next : Check) → Refusals (OfTable end) next
    → Refusals (OfTable end) (check_outputs n outputs next)
outputs_refusals n end [] next h = h
outputs_refusals n end (o ∷ os) next h =
    then_refusals (OfTable end) (check_output o.lent (n * o.each)) _
    (refuse_refusals (OfTable end) OutputShort 0 (ltb o.lent (n * o.each)) passed (omega arith, omega arith)
    (λ _. tt))
    (λ _. outputs_refusals n end os next h)

pub call_refusals : (t : List ℕ) (outputs : List Asked) (scratch : Asked)
    → Refusals (λ reason place. (ground_number reason ≤ 10) × (place ≤ 4096)) (check_call t outputs scratch)
unfolding check_records
call_refusals t outputs scratch =
    then_refusals (OfTable 4096) (check_length (length t)) _
    (refuse_refusals (OfTable 4096) TableTooLong 0 (ltb 65536 (length t)) _ (omega arith, omega arith)
    (λ _. refuse_refusals (OfTable 4096) TableNotWhole 0 (not (eqb (length t % 16) 0)) passed
    (omega arith, omega arith)
    (λ _. tt)))
    (λ e.
    let bytes : length t ≤ 65536 = length_most (length t) e in
    outputs_refusals (length t / 16) 4096 outputs _
    (then_refusals (OfTable 4096) (check_scratch scratch.lent (length t / 16 * scratch.each)) _
    (refuse_refusals (OfTable 4096) ScratchShort 0 (ltb scratch.lent (length t / 16 * scratch.each)) passed
    (omega arith, omega arith) (λ _. tt))
    (λ _. records_refusals t (length t / 16) (length t / 16) 0 4096 (omega arith))))

-- ---- grounds 12 to 17

-- one that is tried after ground 11, at a place up to `end`
abbrev OfList : ℕ → Ground → ℕ → Type 0
OfList end reason place = (12 ≤ ground_number reason) × (place ≤ end)

module _ (P : Ground → ℕ → Type 0) (c : Circuit) (i : ℕ) where
  -- what is said of a value that is too wide for an input which is not fixed to another
  abbrev OfWide : Result Stimulus Ground → Type 0
  OfWide read =
      (v x : ℕ) → read ≡ Ok (Poke v x) → (ltb v (length c) && is_input (input_of (record_of c v))) ≡ true
      → fixed_to_other (input_of (record_of c v)) x ≡ false → leb (2 ^ width (record_of c v)) x ≡ true → P PokeTooWide i

  -- what holds of grounds 14, 15 and 17, and of 16 where none of these does, holds of a stimulus's refusal
  pub stimulus_refusals : P BadStimulus i → P NotAnInput i → P FixedInput i → (b : Bool) (y : Stimulus)
      → OfWide (read_from b y) → Refusals P (check_stimulus c (read_from b y) i)
  stimulus_refusals bad other fixed true y wide = bad
  stimulus_refusals bad other fixed false Tick wide = tt
  stimulus_refusals bad other fixed false (Poke v x) wide =
      refuse_refusals P NotAnInput i (not (ltb v (length c) && is_input (input_of (record_of c v)))) _ other
      (λ e15. refuse_refusals P FixedInput i (fixed_to_other (input_of (record_of c v)) x) _ fixed
      (λ e17. refuse_tested P PokeTooWide i (leb (2 ^ width (record_of c v)) x) passed
      (λ e16. wide v x refl (not-false _ e15) e17 e16) (λ _. tt)))

module _ (P : Ground → ℕ → Type 0) (c : Circuit) (s : List ℕ) where
  -- what P says holds of the refusal of stimulus i, if it is refused
  abbrev RefusalAt : ℕ → Type 0
  RefusalAt i = Refusals P (check_stimulus c (read_stimulus s (i * 8)) i)

  each_refusals : (count i : ℕ) → ((j : ℕ) → i ≤ j → j < i + count → RefusalAt j)
      → Refusals P (check_stimuli_from c s count i)
  unfolding check_stimuli_from
  each_refusals zero i h = tt
  each_refusals (suc count) i h =
      then_refusals P (check_stimulus c (read_stimulus s (i * 8)) i) _ (h i (omega arith) (omega arith))
      (λ _. each_refusals count (i + 1) (λ j low high. h j (omega arith) (omega arith)))

  -- what holds of grounds 12 and 13, and of the refusal of each stimulus, holds of the list's refusal
  pub list_refusals : P StimuliNotWhole 0 → P TooManyStimuli 0
      → (length s / 8 ≤ 4096 → (i : ℕ) → i < length s / 8 → RefusalAt i) → Refusals P (check_stimuli c s)
  unfolding check_stimuli
  list_refusals whole many each =
      refuse_refusals P StimuliNotWhole 0 (not (eqb (length s % 8) 0)) _ whole
      (λ _. refuse_refusals P TooManyStimuli 0 (ltb 4096 (length s / 8)) _ many
      (λ few. each_refusals (length s / 8) 0 (λ j low high. each (ltb-false 4096 _ few) j (omega arith))))

pub stimuli_refusals : (c : Circuit) (s : List ℕ)
    → Refusals (λ reason place. (12 ≤ ground_number reason) × (place ≤ 4096)) (check_stimuli c s)
stimuli_refusals c s =
    list_refusals (OfList 4096) c s (omega arith, omega arith) (omega arith, omega arith)
    (λ few i h.
    let at : i ≤ 4096 = omega arith in
    stimulus_refusals (OfList 4096) c i (omega arith, at) (omega arith, at) (omega arith, at)
    (bad_stimulus s (i * 8)) (stimulus_at s (i * 8)) (λ v x read input own wide. (omega arith, at)))

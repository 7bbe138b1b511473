-- The grounds for turning work down: their numbers, and how checks are put in order. A refusal has a place.
-- Assumes nothing.
use Rattle.std.specs.Prelude.{◌≡◌, ℕ, zero, suc, ◌+◌, Bool, true, false, Result, Ok, Err}
use Rattle.circuit.specs.declared.refusal.Ground.{Ground}
use Rattle.circuit.specs.declared.refusal.Ground.TheVariants.{TableTooLong, TableNotWhole, OutputShort, ScratchShort, UnknownKind, BadWidth, UnknownCode, UnusedNotZero, NoSuchVariable, ValueTooWide, Loop, StimuliNotWhole, TooManyStimuli, BadStimulus, NotAnInput, PokeTooWide, FixedInput, TooManySizes, SizeTooLarge}
use Rattle.circuit.specs.declared.refusal.Ground.TheVariants.{NoSuchKept, TrimmedShort, BadCertificate, NotMarked, ForeignCertificate}
use Rattle.circuit.specs.declared.refusal.Refusal.{Refusal}

-- the number of each ground: document 01's, request S-1's of 18 and 19, request S-5's of 20 to 22, request S-8's of
-- 23, request S-10's of 24
abbrev pub ground_number : Ground → ℕ
ground_number TableTooLong = 1
ground_number TableNotWhole = 2
ground_number OutputShort = 3
ground_number ScratchShort = 4
ground_number UnknownKind = 5
ground_number BadWidth = 6
ground_number UnknownCode = 7
ground_number UnusedNotZero = 8
ground_number NoSuchVariable = 9
ground_number ValueTooWide = 10
ground_number Loop = 11
ground_number StimuliNotWhole = 12
ground_number TooManyStimuli = 13
ground_number BadStimulus = 14
ground_number NotAnInput = 15
ground_number PokeTooWide = 16
ground_number FixedInput = 17
ground_number TooManySizes = 18
ground_number SizeTooLarge = 19
ground_number NoSuchKept = 20
ground_number TrimmedShort = 21
ground_number BadCertificate = 22
ground_number NotMarked = 23
ground_number ForeignCertificate = 24

-- what a check of some grounds finds: none holds, or the first that does, with its place
abbrev pub Check : Type 0
Check = Result Unit Refusal

abbrev pub passed : Check
passed = Ok tt

-- a refusal on a ground, at a place
abbrev pub refused : Ground → ℕ → Check
refused reason place = Err (record { reason = reason; place = place })

-- refused on a ground, at a place, where the test holds; else what is tried next
abbrev pub refuse : Ground → ℕ → Bool → Check → Check
refuse reason place true next = refused reason place
refuse reason place false next = next

-- refused on a ground at the first of `count` numbers from i on of which the test holds
unfoldable pub refuse_first : Ground → (ℕ → Bool) → ℕ → ℕ → Check
refuse_first reason test zero i = passed
refuse_first reason test (suc count) i = refuse reason i (test i) (refuse_first reason test count (i + 1))

-- a check finds a ground by its number, at a place
abbrev pub Finds : Check → ℕ → ℕ → Type 0
Finds (Ok u) number place = ⊥
Finds (Err r) number place = (ground_number r.reason ≡ number) × (r.place ≡ place)

infixr 20 ◌then◌
-- the first refusal of two checks
abbrev pub ◌then◌ : Check → Check → Check
Ok u then next = next
Err r then next = Err r

-- Every list that a bench call accepts on a certified table can be renumbered for the trimmed one: each poke names an
-- input, every input survives, and two bytes hold its new number. So the claim of a trimmed table is about every list
-- that the table accepts.
-- Assumes nothing.
use mathlib.Core.Path.{◌≡◌, refl, sym, ap, ◌∙◌}
use mathlib.Core.Bool.{Bool}
use mathlib.Core.Logic.{◌⊎◌, inl, inr}
use mathlib.Core.List.{List}
use Prim.Native.Nat.{ℕ, zero, suc, ◌+◌, ◌*◌, ◌/◌, ◌%◌, ◌^◌, ◌≤◌, ◌<◌}
use native.Mathlib.Omega.{arith}
use lib.Dec.{lit<}
use lib.ListN.{length, take, get_or, get_or-eq_default}
use Rattle.std.specs.Prelude.{Result, Ok}
use Rattle.net.specs.declared.Stimulus.{Stimulus}
use Rattle.net.specs.declared.Stimulus.TheVariants.{Poke, Tick}
use Rattle.net.proofs.Cases.{by_le}
use Rattle.net.proofs.Lists.{length_list_below, get_or_list_below}
use Rattle.circuit.specs.declared.record.Record.{Record}
use Rattle.circuit.specs.declared.refusal.Refusal.{Refusal}
use Rattle.circuit.specs.Refusal.{passed}
use Rattle.circuit.specs.Number.{u16_at}
use Rattle.circuit.specs.Record.{input_of}
use Rattle.circuit.specs.Circuit.{Circuit, circuit, record_of}
use Rattle.circuit.specs.Stimuli.{stimulus_at, read_from, is_input, check_stimulus, check_stimuli}
use Rattle.circuit.proofs.Words.{u16_bytes_lem}
use Rattle.circuit.proofs.Numbers.{StimulusNumbers, stimulus_read}
use Rattle.circuit.proofs.Stimuli.{poke_passed, stimulus_passed}
use Rattle.fact.specs.declared.Fact.{Fact}
use Rattle.fact.specs.Certificate.{certificate}
use Rattle.call.specs.Call.{lent, left}
use Rattle.call.proofs.Parts.{table_checked}
use Rattle.certificate.specs.Promise.{certifying, Certifies}
use Rattle.machine.specs.Promise.{Benches}
use Rattle.trim.specs.Promise as trim-call
use Rattle.trim.specs.Promise.{CallTrims}
use Rattle.trim.specs.Trimmed.{replaced, new_number, trimmed}
use Rattle.trim.proofs.Replaced.{replace_input, replaced_length, replaced_record}
use Rattle.trim.proofs.Survivors.{old_number, inputs_survive, old_new, new_below, trimmed_length}
use Rattle.trim.proofs.Accepted.{trimmed_few}
use Rattle.guarantee.specs.Trimmed.{SameButVariable, TickStays, PokeRenumbered, RenumberedStimuli, TrimmedAlike}
use Rattle.guarantee.specs.Trimmed.{AllBytes, renumbered_variable, renumbered_at, renumbered}
use Rattle.guarantee.proofs.Trimming.{own_size, own_numbers}
use Rattle.guarantee.proofs.Trimmed.{trimmed_alike}

-- ---- the bytes of the renumbered list

module _ (new : ℕ → ℕ) (s : List ℕ) where
  abbrev s' : List ℕ
  s' = renumbered new s

  renumbered_length : length s' ≡ length s
  unfolding renumbered
  renumbered_length = length_list_below (λ m. get_or (renumbered_at new s (m / 8 * 8)) (m % 8) 0) (length s)

  renumbered_get_or : (m : ℕ) → m < length s → get_or s' m 0 ≡ get_or (renumbered_at new s (m / 8 * 8)) (m % 8) 0
  unfolding renumbered
  renumbered_get_or m h = get_or_list_below (λ m. get_or (renumbered_at new s (m / 8 * 8)) (m % 8) 0) (length s) m 0 h

  module _ (i : ℕ) (h : i < length s / 8) where
    -- byte m of stimulus i, at a place that is given by an equation
    renumbered_byte : (m place : ℕ) → m < 8 → place ≡ i * 8 + m
        → get_or s' place 0 ≡ get_or (renumbered_at new s (i * 8)) m 0
    renumbered_byte m place l e =
        let start : place / 8 * 8 ≡ i * 8 = omega arith in
        let byte : place % 8 ≡ m = omega arith in
        renumbered_get_or place (omega arith)
        ∙ ap (λ (at : ℕ). get_or (renumbered_at new s at) (place % 8) 0) start
        ∙ ap (λ (k : ℕ). get_or (renumbered_at new s (i * 8)) k 0) byte

    -- a byte that is not its variable's
    byte_same : (m place : ℕ) → m < 8 → place ≡ i * 8 + m
        → get_or (renumbered_at new s (i * 8)) m 0 ≡ get_or s (i * 8 + m) 0 → get_or s' place 0 ≡ get_or s place 0
    byte_same m place l e is = renumbered_byte m place l e ∙ is ∙ ap (λ (k : ℕ). get_or s k 0) (sym e)

    renumbered_same : SameButVariable s s' (i * 8)
    renumbered_same =
        record {
          kind = renumbered_byte 0 (i * 8) (lit< tt) (omega arith);
          byte1 = renumbered_byte 1 (i * 8 + 1) (lit< tt) refl;
          value = rw (
            byte_same 4 (i * 8 + 4) (lit< tt) refl refl,
            byte_same 5 (i * 8 + 4 + 1) (lit< tt) (omega arith) refl,
            byte_same 6 (i * 8 + 4 + 2) (lit< tt) (omega arith) refl,
            byte_same 7 (i * 8 + 4 + 3) (lit< tt) (omega arith) refl,
          );
        }

    -- its variable
    renumbered_u16 : renumbered_variable new s (i * 8) < 2 ^ 16 → u16_at s' (i * 8 + 2) ≡ renumbered_variable new s (i * 8)
    renumbered_u16 small =
        rw (
          renumbered_byte 2 (i * 8 + 2) (lit< tt) refl,
          renumbered_byte 3 (i * 8 + 2 + 1) (lit< tt) (omega arith),
        )
        (u16_bytes_lem (renumbered_variable new s (i * 8)) small)

  -- ---- its numbers are bytes where the list's are

  module _ (bytes : AllBytes s) where
    byte_read : (m : ℕ) → get_or s m 0 < 256
    byte_read m =
        by_le (length s) m (λ past. omega (arith, get_or-eq_default s 0 {n = m} past)) (λ below. bytes m below)

    stimulus_bytes : (at m : ℕ) → get_or (renumbered_at new s at) m 0 < 256
    stimulus_bytes at zero = byte_read at
    stimulus_bytes at (suc zero) = byte_read (at + 1)
    stimulus_bytes at (suc (suc zero)) = omega arith
    stimulus_bytes at (suc (suc (suc zero))) = omega arith
    stimulus_bytes at (suc (suc (suc (suc zero)))) = byte_read (at + 4)
    stimulus_bytes at (suc (suc (suc (suc (suc zero))))) = byte_read (at + 5)
    stimulus_bytes at (suc (suc (suc (suc (suc (suc zero)))))) = byte_read (at + 6)
    stimulus_bytes at (suc (suc (suc (suc (suc (suc (suc zero))))))) = byte_read (at + 7)
    stimulus_bytes at (suc (suc (suc (suc (suc (suc (suc (suc m)))))))) = lit< tt

    -- every number of the renumbered list is a byte
    pub renumbered_bytes : AllBytes s'
    renumbered_bytes m h =
        rw (renumbered_get_or m (rw renumbered_length at h)) (stimulus_bytes (m / 8 * 8) (m % 8))

-- ---- the list

module _ (c : Circuit) (store : ℕ → Fact) (kept numbers : List ℕ) (k : ℕ) where
  abbrev called : Circuit
  called = replaced c store

  abbrev new : ℕ → ℕ
  new = new_number called kept

  module _ (size : k ≡ length (trimmed called kept))
      (olds : (j : ℕ) → j < k → get_or numbers j 0 ≡ old_number called kept j) where
    -- the variable of a poke that passes is an input, which has a new number
    poke_numbered : (v x : ℕ) → check_stimulus c (Ok (Poke v x)) 0 ≡ passed
        → (new v < k) × (get_or numbers (new v) 0 ≡ v)
    poke_numbered v x e =
        let q = poke_passed c v x 0 e in
        let stays : record_of called v ≡ record_of c v =
        replaced_record c store v q.below ∙ replace_input (store v) (record_of c v) q.is_input_lem in
        let survives =
        inputs_survive called kept v (ap (λ (r : Record). is_input (input_of r)) stays ∙ q.is_input_lem) in
        let below : v < length called = rw (replaced_length c store) q.below in
        let small : new v < k =
        omega (arith, size, trimmed_length called kept, new_below called kept v below survives) in
        (small, olds (new v) small ∙ old_new called kept v below survives)

    module _ (few : k ≤ 2 ^ 16) (s : List ℕ) where
      abbrev variable : ℕ → ℕ
      variable i = renumbered_variable new s (i * 8)

      variable_at : (i : ℕ) → i < length s / 8 → (x : Stimulus) → StimulusNumbers s (i * 8) x
          → check_stimulus c (Ok x) 0 ≡ passed
          → TickStays s (renumbered new s) (i * 8) ⊎ PokeRenumbered numbers k s (renumbered new s) (i * 8)
      variable_at i h (Poke v x) p ok =
          let (small, old) = poke_numbered v x ok in
          let is : variable i ≡ new v = rw (p.kind, p.variable) in
          let now : u16_at (renumbered new s) (i * 8 + 2) ≡ new v = renumbered_u16 new s i h (omega arith) ∙ is in
          inr (record { poke = p.kind; below = rw now small; old = rw (now, p.variable) old })
      variable_at i h Tick p ok =
          let is : variable i ≡ 0 = rw (p.kind, p.variable) in
          inl (p.kind, renumbered_u16 new s i h (omega arith) ∙ is ∙ sym p.variable)

      -- a list that passes, renumbered
      renumbered_list : check_stimuli c s ≡ passed → RenumberedStimuli numbers k s (renumbered new s)
      renumbered_list e =
          record {
            equally_long = renumbered_length new s;
            same = renumbered_same new s;
            variables = λ i h.
                let (good, ok) = stimulus_passed c s e i h in
                let numbers_of =
                (stimulus_read s (i * 8) (stimulus_at s (i * 8))).0
                (ap (λ (bad : Bool). read_from bad (stimulus_at s (i * 8))) good) in
                variable_at i h (stimulus_at s (i * 8)) numbers_of ok;
          }

-- ---- the calls

module _ {t cells scratch cells' scratch' : List ℕ} {rounds : ℕ}
    (p : Certifies (lent t cells scratch) (left cells' scratch') (Ok rounds))
    {kept first second scratch₁ first' numbers scratch₁' : List ℕ} {k : ℕ}
    (q : CallTrims (take (length t / 16 * 8) cells') kept (trim-call.lent t first second scratch₁)
    (trim-call.left first' numbers scratch₁') (Ok k))
    {s values scratch₂ values' scratch₂' : List ℕ}
    (b : Benches s (lent t values scratch₂) (left values' scratch₂') (Ok tt)) where
  abbrev table : Circuit
  table = circuit t (length t / 16)

  -- the new numbers of the table that is trimmed by its certificate
  abbrev numbered : ℕ → ℕ
  numbered = new_number (replaced table (certificate table)) kept

  -- the accepted list with its pokes renumbered
  pub renumbered_own : RenumberedStimuli numbers k s (renumbered numbered s)
  renumbered_own =
      renumbered_list table (certificate table) kept numbers k (own_size p q) (own_numbers p q)
      (omega (arith, trimmed_few q, (table_checked certifying (lent t cells scratch) p.past.passed).small)) s
      b.later

  -- there is such a list, and it is one of bytes where the accepted one is
  pub renumbered_exists : (s' : List ℕ) × RenumberedStimuli numbers k s s' × (AllBytes s → AllBytes s')
  renumbered_exists = (renumbered numbered s, renumbered_own, renumbered_bytes numbered s)

  -- so the claim of a trimmed table is about every accepted list
  pub trimmed_runs : (s' : List ℕ) × RenumberedStimuli numbers k s s' × (AllBytes s → AllBytes s')
      × ((values₁ scratch₃ values₁' scratch₃' : List ℕ) (r : Result Unit Refusal)
      → Benches s' (lent (take (k * 16) first') values₁ scratch₃) (left values₁' scratch₃') r
      → k ≤ length values₁ → k * 4 ≤ length scratch₃ → TrimmedAlike kept numbers k values' values₁' r)
  trimmed_runs =
      let (s', renumbers, bytes) = renumbered_exists in (
        s',
        renumbers,
        bytes,
        λ values₁ scratch₃ values₁' scratch₃' r b' output room.
            trimmed_alike p q b s' values₁ scratch₃ values₁' scratch₃' r b' output room renumbers,
      )

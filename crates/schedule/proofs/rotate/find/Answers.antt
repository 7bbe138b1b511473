-- What is looked for stands in the part that is searched.
-- Assumes nothing.
use Rattle.std.proofs.Common.{ℕ, ◌≡◌, ◌+◌, ◌-◌, ◌<◌, List, None, Some, Option, get_or, length, rules, tests, arith, refl, zero-le, ◌∙◌, ap}
use Rattle.std.specs.List.{AllWithin, HoldsAt, between}
use Rattle.std.specs.Option.{IsSome, MatchOption}
use Rattle.std.proofs.lemmas.List.Edits.{length-between, get_or-between}
use Rattle.std.proofs.lemmas.Iterator.{YieldsList-from_slice, IsFirst-from_position}
use Rattle.schedule.proofs.rotate.find.Goals as goal

some_found : (r : Option ℕ) (xs : List ℕ) (u k : ℕ) → k < length xs → get_or xs k 0 ≡ u
    → MatchOption r (AllWithin (λ x. x ≡ u → ⊥) xs 0 (length xs)) (λ i. (i < length xs) × HoldsAt (λ x. x ≡ u) xs i × AllWithin (λ x. x ≡ u → ⊥) xs 0 i)
    → IsSome r
some_found None xs u k l e h = absurd (h k 0 zero-le l e)
some_found (Some i) xs u k l e h = refl

pub unwrap-requires : goal.unwrap-requires
unwrap-requires c =
    let a = c.args in
    let (p, low, high, here) = c.requires.by_index in
    let within : a.top + (p - a.top) ≡ p = omega arith in
    some_found _ (between a.top a.n a.s.now) a.u (p - a.top)
    (omega (arith, length-between a.s.now a.top a.n c.requires.n_in_bounds))
    (get_or-between a.s.now a.top a.n (p - a.top) 0 (omega arith) ∙ ap (λ (x : ℕ). get_or a.s.now x 0) within ∙ here)
    (IsFirst-from_position _ _ c.position-found.result (λ x. x ≡ a.u) (λ x. x ≡ a.u → ⊥) c.position-found.ensures.ran
    (YieldsList-from_slice _ c.iter.ensures.rest) (λ x q k. search (rules, tests)) (λ x q k. search (rules, tests)))

-- What a program reads into a buffer, one piece behind the other.
-- Assumes nothing.
use Rattle.std.proofs.Common.{◌≡◌, ℕ, ◌+◌, ◌≤◌, List, ◌++◌, length, take, sym, ap, ◌∙◌, subst, length-take-le}
use Rattle.std.proofs.Math.Seq.{take-append-add, take-append-le}
use Rattle.std.specs.Prelude.{Option}
use Rattle.std.specs.Io.KnownBytes.{Consumes}
use Rattle.std.proofs.KnownBytes.{Consumes-trans}
use borrow.Rule.Slice.PartMut.{put_mid, post_of}

take-put_mid_more : (a k n : ℕ) (xs ys : List ℕ) → a ≤ length xs → n ≤ length ys
    → take (a + n) (put_mid a k xs ys) ≡ take a xs ++ take n ys
take-put_mid_more a k n xs ys within fits =
    subst (λ m. take (m + n) (put_mid a k xs ys) ≡ take a xs ++ take n ys) (length-take-le a xs within)
    (take-append-add (take a xs) (ys ++ post_of a k xs) n
    ∙ ap (λ l. take a xs ++ l) (take-append-le n ys (post_of a k xs) fits))

-- what one more read put behind the front was what the reader gave next
pub read_more : (a k n : ℕ) (xs ys : List ℕ) (first between last : Option (List ℕ)) → a ≤ length xs → n ≤ length ys
    → Consumes first between (take a xs) → Consumes between last (take n ys)
    → Consumes first last (take (a + n) (put_mid a k xs ys))
read_more a k n xs ys first between last within fits front next =
    subst (Consumes first last) (sym (take-put_mid_more a k n xs ys within fits))
    (Consumes-trans first between last (take a xs) (take n ys) front next)

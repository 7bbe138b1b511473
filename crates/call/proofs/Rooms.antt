-- How much scratch a call asks, and how much it is lent, decides nothing but ground 4 and the scratch that it leaves:
-- two such calls on the same table and outputs, each lent as much scratch as it asks, leave equal outputs and answer
-- alike, but for which loop is shown.
-- Assumes nothing.
use mathlib.Core.Path.{◌≡◌, refl, sym, ap, ◌∙◌, subst}
use mathlib.Core.Logic.{◌⊎◌, inl, inr}
use mathlib.Core.List.{List}
use Prim.Native.Nat.{ℕ, ◌*◌, ◌≤◌}
use borrow.Author.Tests.{le-ltb}
use lib.ListN.{length}
use Rattle.std.specs.Prelude.{Ok, Err}
use Rattle.circuit.specs.Refusal.{ground_number, Check, Finds}
use Rattle.call.specs.Call.{Lent, Left, Answer, Call, size, checked, part}
use Rattle.call.specs.Call.{scratch_with, scratch_cleared, PastEleven, Promises}
use Rattle.call.specs.Rooms.{with_room, with_scratch, IgnoresScratch, RefusedLoop, SameButLoop}
use Rattle.call.proofs.Contents.{BothLoops, contents_fixed}

module _ (call : Call) (room : ℕ) (l : Lent) (scratch : List ℕ) (enough : part call l ≤ length l.scratch)
    (enough' : size l * room ≤ length scratch) (ignores : IgnoresScratch call l scratch) where
  abbrev other : Call
  other = with_room room call

  abbrev l' : Lent
  l' = with_scratch scratch l

  same_checked : checked call l ≡ checked other l'
  same_checked =
      rw (le-ltb (length l.scratch) (part call l) enough, le-ltb (length scratch) (size l * room) enough') refl

  same_past : {e : Left} → PastEleven call l e
      → PastEleven other l' (record { outputs = e.outputs; scratch = scratch_cleared other l' })
  same_past p = record { passed = sym same_checked ∙ p.passed; no_loop = p.no_loop; scratch = refl }

  -- an answer and outputs that keep the promise of the one keep that of the other, with some scratch left
  pub promised_in_room : (e : Left) (a : Answer) → Promises call l e a
      → (left : List ℕ) × Promises other l' (record { outputs = e.outputs; scratch = left }) a
  promised_in_room e (Ok k) p = (
    scratch_cleared other l',
    record {
      past = same_past p.past;
      later = sym ignores.later ∙ p.later;
      accepts = ignores.accepts e.outputs k p.accepts;
    },
  )
  promised_in_room e (Err r) (inl p) = (
    scratch,
    inl (record {
      first = subst (λ (check : Check). Finds check (ground_number r.reason) r.place) same_checked p.first;
      outputs = p.outputs;
      scratch = refl;
    }),
  )
  promised_in_room e (Err r) (inr (inl (is, p))) = (
    scratch_with other l' p.row,
    inr (inl (
      is,
      record {
        passed = sym same_checked ∙ p.passed;
        row = p.row;
        loop = p.loop;
        lowest = p.lowest;
        row_length = p.row_length;
        outputs = p.outputs;
        scratch = refl;
      },
    )),
  )
  promised_in_room e (Err r) (inr (inr p)) = (
    scratch_cleared other l',
    inr (inr (record {
      past = same_past p.past;
      first = subst (λ (check : Check). Finds check (ground_number r.reason) r.place) ignores.later p.first;
      outputs = p.outputs;
    })),
  )

  module _ (determined : (o o' : List (List ℕ)) (k k' : ℕ) → call.Accepts l' o k → call.Accepts l' o' k'
      → (k ≡ k') × (o ≡ o')) where
    -- both leave equal outputs, and answer alike but for which loop is shown
    pub rooms_alike : (e e' : Left) (a a' : Answer) → Promises call l e a → Promises other l' e' a'
        → SameButLoop e e' a a'
    rooms_alike e e' a a' p q =
        let (left, p') = promised_in_room e a p in
        told (contents_fixed other l' determined (record { outputs = e.outputs; scratch = left }) e' a a' p' q)
      where
        told : {left : List ℕ}
            → ((a ≡ a') × (record { outputs = e.outputs; scratch = left } ≡ e'))
            ⊎ BothLoops other l' (record { outputs = e.outputs; scratch = left }) e' a a'
            → SameButLoop e e' a a'
        told (inl (answers, same)) = record { outputs = ap (λ (x : Left). x.outputs) same; answers = inl answers }
        told (inr b) =
            record {
              outputs = b.outputs;
              answers = inr (
                subst RefusedLoop (sym b.answers.0) b.numbers.0,
                subst RefusedLoop (sym b.answers.1) b.numbers.1,
              );
            }

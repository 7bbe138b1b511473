-- What a reader of stimuli owns is kept where its place changes, and a local that holds one can be lent and freed.
-- Assumes nothing.
use mathlib.Core.Path.{refl}
use Prim.Native.Nat.{ℕ, ◌≤◌, ◌<◌, ◌^◌}
use lib.ListN.{length}
use mathlib.Core.List.{List, [], ◌∷◌}
use seplogic.Ra.Ura.{Ura}
use base.Fraction.{full_share}
use mir.Syntax.{erased, w64}
use mir.Val.{Val}
use base.Logic.{ent, sep}
use base.Fml.{fsep, fat}
use types.Logic.{Logic, sem}
use types.Kit.{‵, ◌$◌, ◌∵◌, !, qed, by, move, keep, use1, fsplit, fjoin, fpick, fpack, done}
use denote.RattleType.{RattleType}
use denote.Laws.{Is, shows}
use denote.Memory.{mem, cell_at, part_of}
use denote.Plain.{uint_Makes}
use denote.Builtin.{usize}
use denote.Ref.{NamedLft}
use denote.Steps.{owned}
use denote.Struct.Laws as LL
use denote.Struct.Rest.{own_put}
use denote.Struct.Steps.{spelt}
use Rattle.machine.specs.declared.reader.StimulusReader.{StimulusReader}
use Rattle.machine.specs.contracts.reader.StimulusReader as T
use Rattle.machine.proofs.reader.StimulusReader.TheLaws as T'

module _ {M : Type 1} {𝓤 : Ura M} (𝓛 : Logic 𝓤) (α : NamedLft)
    (r : StimulusReader) where
  abbrev R : RattleType
  R = T.the_row α

  abbrev at_place : (at : ℕ) → at ≤ length r.stimuli.now → StimulusReader
  at_place at within = record { stimuli = r.stimuli; at = at; in_bounds = within }

  -- the same list at another place in it: what the slice owns is kept, and the place's facts are made anew
  pub owns_at : (at : ℕ) (within : at ≤ length r.stimuli.now) → at < 2 ^ 64
      → ent 𝓤 (sem 𝓛 (R.own_val r (T'.lowered r ∷ [])))
      (sem 𝓛 (R.own_val (at_place at within) (T'.lowered (at_place at within) ∷ [])))
  owns_at at within fits =
      qed 𝓛 (‵ (R.own_val r (T'.lowered r ∷ [])) ∷ []) ∵
      owned ! usize (Is usize) (uint_Makes 𝓛 w64) at _ (refl, fits) $ move ! (1 ∷ 0 ∷ []) $
      by ! (own_put 𝓛 (T.the_type α) (T'.the_laws α) 1 (r.stimuli, (r.at, tt)) at (T'.lowered r))

  module _ (b o : ℕ) where
    -- a local that holds the reader, as what is lent
    pub local_lies : (u : Val)
        → ent 𝓤 (sep 𝓤 (sem 𝓛 (fat full_share (T'.mir erased) b o u)) (sem 𝓛 (R.own_val r (u ∷ []))))
        (sem 𝓛 ((mem R).own_at r b o))
    unfolding part_of
    local_lies u =
        qed 𝓛 (‵ (fat full_share (T'.mir erased) b o u) ∷ ‵ (R.own_val r (u ∷ [])) ∷ []) ∵
        use1 𝓛 (‵ (cell_at full_share R.mir (u ∷ []) b o)) (𝓛.laws.at_raw full_share (T'.mir erased) b o u) $
        fjoin ! $ fpack ! (List Val) (λ us. fsep (cell_at full_share R.mir us b o) (R.own_val r us)) (u ∷ []) $ done !

    -- and once it is taken back
    pub local_back : ent 𝓤 (sem 𝓛 ((mem R).own_at r b o))
        (sem 𝓛 (fat full_share (T'.mir erased) b o (T'.lowered r)))
    unfolding part_of
    local_back =
        qed 𝓛 (‵ ((mem R).own_at r b o) ∷ []) ∵ fpick ! (λ vs. fsplit ! $
        spelt ! R (Is R) (shows 𝓛 R) (LL.vals (T.the_type α) (T'.the_laws α))
        (LL.tells (T.the_type α) (T'.the_laws α)) full_share r vs b o $
        use1 𝓛 (‵ (fat full_share (T'.mir erased) b o (T'.lowered r)))
        (𝓛.laws.raw_at full_share (T'.mir erased) b o (T'.lowered r)) $ keep ! (0 ∷ []) $ done !)

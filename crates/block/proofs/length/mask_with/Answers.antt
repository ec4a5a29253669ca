-- `block::length::mask_with` meets its contract, by the use of the auxiliary bits. Assumes nothing.
use mathlib.Core.Path.{◌≡◌, sym, ap, ◌∙◌}
use mathlib.Core.Logic.{⊎_elim}
use Rattle.status.specs.declared.Auxiliary.{Auxiliary}
use Rattle.block.specs.Inner.{mask_with}
use Rattle.block.proofs.length.mask_with.Goals.{Start}
use Rattle.block.proofs.length.mask_with.Goals as goal

-- by what the bits are used for
module _ (s : Start) where
  used : {x : Auxiliary} → s.args.d.auxiliary ≡ x → mask_with x s.args.d.word_length ≡ mask_with s.args.d.auxiliary s.args.d.word_length
  used e = ap (λ (y : Auxiliary). mask_with y s.args.d.word_length) (sym e)

pub returns-in-MainAudio : goal.returns-in-MainAudio
unfolding mask_with
returns-in-MainAudio c = c.mask_below.ensures ∙ used (goal.at.returns-in-MainAudio c).Start c.in-MainAudio.is

pub returns-in-NotDefined : goal.returns-in-NotDefined
unfolding mask_with
returns-in-NotDefined c =
    let s = (goal.at.returns-in-NotDefined c).Start in
    ⊎_elim (λ e. c.mask_below-in-NotDefined.ensures ∙ used s e) (λ e. c.mask_below-in-NotDefined.ensures ∙ used s e) c.in-NotDefined.is

pub returns-in-UserDefined : goal.returns-in-UserDefined
unfolding mask_with
returns-in-UserDefined c =
    let s = (goal.at.returns-in-UserDefined c).Start in
    ⊎_elim (λ e. used s e) (λ e. used s e.1) c.in-UserDefined.is

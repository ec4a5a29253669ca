-- `madi_patch::Lent::word` meets its contract: a carried row names an active slot. Assumes nothing.
use mathlib.Core.Path.{◌≡◌, sym, ap, ◌∙◌}
use mathlib.Core.Logic.{◌⊎◌, inl, inr}
use Prim.Native.Nat.{ℕ, ◌<◌}
use native.Mathlib.Omega.{arith}
use lib.ListN.{get_or}
use Rattle.madi_patch.specs.Slot.{heard, named_word, slot_word}
use Rattle.madi_patch.specs.Inner.{lent}
use Rattle.madi_patch.specs.declared.SlotVerdict.{SlotVerdict}
use Rattle.madi_patch.specs.declared.SlotVerdict.TheVariants.{None, Foreign, BadParity}
use Rattle.madi_patch.proofs.SlotLaws.{carried-only}
use Rattle.madi_patch.proofs.Lent.word.Goals as goal
use Rattle.madi_patch.proofs.Lent.word.Goals.{In-Carried}

in-active : (c : In-Carried) → get_or c.args.self.now.rows.now c.args.o 0 < c.args.self.now.active
in-active c = (carried-only (lent c.args.self.now) c.args.o (sym c.requires.v_value ∙ c.in-Carried.is)).in-active

-- each other verdict silences the slot
silent : (w : ℕ) (v : SlotVerdict) → (v ≡ None) ⊎ ((v ≡ Foreign) ⊎ (v ≡ BadParity)) → 0 ≡ heard v w
silent w v (inl e) = ap (λ (x : SlotVerdict). heard x w) (sym e)
silent w v (inr (inl e)) = ap (λ (x : SlotVerdict). heard x w) (sym e)
silent w v (inr (inr e)) = ap (λ (x : SlotVerdict). heard x w) (sym e)

pub bounds-self-self : goal.bounds-self-self
bounds-self-self c = omega (arith, in-active (goal.at.bounds-self-self c).In-Carried, c.requires.reaches.words)

pub returns-in-Carried : goal.returns-in-Carried
unfolding slot_word
returns-in-Carried c =
    let l = lent c.args.self.now in
    c.cleared_word.ensures
    ∙ ap (λ (v : SlotVerdict). heard v (named_word l c.args.o)) (sym c.in-Carried.is ∙ c.requires.v_value)

pub returns-in-None : goal.returns-in-None
unfolding slot_word
returns-in-None c =
    let l = lent c.args.self.now in
    silent (named_word l c.args.o) c.args.v c.in-None.is ∙ ap (λ (v : SlotVerdict). heard v (named_word l c.args.o)) c.requires.v_value

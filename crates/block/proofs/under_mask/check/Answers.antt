-- `block::under_mask::check` meets its contract: where nothing was gathered under the masks nothing is found. Assumes nothing.
use mathlib.Core.Path.{◌≡◌, sym, ap, ◌∙◌}
use mathlib.Core.Bool.{not}
use Prim.Native.Nat.{ℕ}
use native.Mathlib.Omega.{arith}
use borrow.Author.Count.{below_more}
use borrow.Author.Rules.{sfits_of}
use borrow.Author.Tests.{eq-eqb, ne_eqb}
use lib.Dec.{eqb}
use mir.Syntax.{w32}
use mir.Facts.{to_z-of_z}
use Rattle.block.specs.Check.{overlong}
use Rattle.block.specs.Inner.{masked, lengths_checked}
use Rattle.block.proofs.CheckLaws.{hit, miss}
use Rattle.block.proofs.LengthLaws.{masked-at, overlong-is}
use Rattle.block.proofs.Lifting.{none-masked}
use Rattle.block.proofs.under_mask.check.Goals.{After-bits_in, After-mask_under-2}
use Rattle.block.proofs.under_mask.check.Goals as goal

-- the masks are those of the status
module _ (c : After-mask_under-2) where
  by-masks : (i : ℕ) → overlong c.args.samples.now c.args.side.now i ≡ masked c.args.samples.now c.mask_under.result c.mask_under-2.result i
  by-masks = overlong-is c.args.samples.now c.args.side.now c.mask_under.result c.mask_under-2.result c.mask_under.ensures c.mask_under-2.ensures

-- what was found of the sample that was read
module _ (c : After-bits_in) where
  tells : masked c.args.samples.now c.mask_under.result c.mask_under-2.result c.loop-i.i ≡ not (eqb c.bits_in.result 0)
  tells =
      masked-at c.args.samples.now c.mask_under.result c.mask_under-2.result c.loop-i.i
      ∙ sym (ap (λ (n : ℕ). not (eqb n 0))
      (rw (to_z-of_z {w = w32} (sfits_of c.bits_in-arg-1.given), c.at.ensures) at c.bits_in.ensures))

pub returns-then-spare : goal.returns-then-spare
unfolding lengths_checked
returns-then-spare c =
    let a = c.args in
    let p = (goal.at.returns-then-spare c).After-mask_under-2 in
    let e = c.spare.ensures c.if-spare.true in
    miss 18 (overlong a.samples.now a.side.now) 384 384
    (λ k h. by-masks p k ∙ none-masked a.samples.now a.all c.mask_under.result c.mask_under-2.result c.requires.0 c.requires.1 e.0 e.1 e.2 k h)
    (omega arith)

pub returns-then-bits_in-ne0 : goal.returns-then-bits_in-ne0
unfolding lengths_checked
returns-then-bits_in-ne0 c =
    let p = (goal.at.returns-then-bits_in-ne0 c).After-mask_under-2 in
    hit 18 (overlong c.args.samples.now c.args.side.now) 384 c.loop-i.i
    (λ k h. by-masks p k ∙ c.loop-i.invariant k h) c.loop-i-test.true
    (by-masks p c.loop-i.i ∙ tells (goal.at.returns-then-bits_in-ne0 c).After-bits_in ∙ ap not (ne_eqb _ 0 c.if-bits_in-ne0.true))

pub loop-i-preserved : goal.loop-i-preserved
loop-i-preserved c =
    below_more _ _ c.loop-i.invariant (tells (goal.at.loop-i-preserved c).After-bits_in ∙ ap not (eq-eqb _ 0 c.if-bits_in-ne0.false))

pub returns : goal.returns
unfolding lengths_checked
returns c =
    let p = (goal.at.returns c).After-mask_under-2 in
    miss 18 (overlong c.args.samples.now c.args.side.now) 384 c.loop-i.i (λ k h. by-masks p k ∙ c.loop-i.invariant k h) c.loop-i-test.false

-- `block::one_pass::check` meets its contract: where nothing was gathered from 2 ^ 24 on nothing is found. Assumes nothing.
use mathlib.Core.Path.{◌≡◌, sym, ap, ◌∙◌}
use mathlib.Core.Bool.{not}
use native.Mathlib.Omega.{arith}
use borrow.Author.Count.{below_more}
use borrow.Author.Rules.{sfits_of}
use mir.Syntax.{w32}
use mir.Facts.{to_z-of_z}
use Rattle.block.specs.Check.{outside}
use Rattle.block.specs.Inner.{range_checked}
use Rattle.block.proofs.CheckLaws.{hit, miss}
use Rattle.block.proofs.Lifting.{none-outside}
use Rattle.block.proofs.one_pass.check.Goals.{After-in_range}
use Rattle.block.proofs.one_pass.check.Goals as goal

-- what `in_range` said of the sample that was read
module _ (c : After-in_range) where
  tells : outside c.args.samples.now c.loop-i.i ≡ not c.in_range.result
  unfolding outside
  tells = ap not (sym (rw (to_z-of_z {w = w32} (sfits_of c.in_range-arg-1.given)) at c.in_range.ensures))

pub returns-then-all-eq0 : goal.returns-then-all-eq0
unfolding range_checked
returns-then-all-eq0 c =
    let samples = c.args.samples.now in
    miss 3 (outside samples) 384 384 (none-outside samples c.args.all c.requires c.if-all-eq0.true) (omega arith)

pub returns-then-not-in_range : goal.returns-then-not-in_range
unfolding range_checked
returns-then-not-in_range c =
    hit 3 (outside c.args.samples.now) 384 c.loop-i.i c.loop-i.invariant c.loop-i-test.true
    (tells (goal.at.returns-then-not-in_range c).After-in_range ∙ ap not c.if-not-in_range.true)

pub loop-i-preserved : goal.loop-i-preserved
loop-i-preserved c =
    below_more _ _ c.loop-i.invariant
    (tells (goal.at.loop-i-preserved c).After-in_range ∙ ap not c.if-not-in_range.false)

pub returns : goal.returns
unfolding range_checked
returns c = miss 3 (outside c.args.samples.now) 384 c.loop-i.i c.loop-i.invariant c.loop-i-test.false

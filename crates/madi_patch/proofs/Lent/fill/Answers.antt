-- `madi_patch::Lent::fill` meets its contract: after o turns the first o verdicts and words are those of the patch.
-- Assumes nothing.
use mathlib.Core.Path.{ap, ◌∙◌}
use native.Mathlib.Omega.{arith}
use borrow.Author.Rules.{rules}
use Rattle.madi_patch.specs.Slot.{verdict_octet}
use Rattle.madi_patch.proofs.Listing.{none-listed, as_long, one_more, all_listed}
use Rattle.madi_patch.proofs.Lent.fill.Goals as goal

pub loop-o-init : goal.loop-o-init
loop-o-init c = (
  none-listed _ c.args.channels c.args.out.now c.requires.of-out,
  none-listed _ c.args.channels c.args.verdicts.now c.requires.of-verdicts,
)

pub bounds-verdicts-o : goal.bounds-verdicts-o
bounds-verdicts-o c = omega (arith, as_long c.loop-o.invariant.1)

pub word-requires : goal.word-requires
word-requires c = record { reaches = search rules; v_value = c.judge-v.ensures }

pub bounds-out-o : goal.bounds-out-o
bounds-out-o c = omega (arith, as_long c.loop-o.invariant.0)

pub loop-o-preserved : goal.loop-o-preserved
loop-o-preserved c =
    let v = c.loop-o in (
      one_more v.invariant.0 c.word.result c.loop-o-test.true c.word.ensures,
      one_more v.invariant.1 c.from.result c.loop-o-test.true (c.from.ensures ∙ ap verdict_octet c.judge-v.ensures),
    )

pub shape_of-out : goal.shape_of-out
shape_of-out c = as_long c.loop-o.invariant.0

pub shape_of-verdicts : goal.shape_of-verdicts
shape_of-verdicts c = as_long c.loop-o.invariant.1

pub returns : goal.returns
returns c = record { out_after = all_listed c.loop-o.invariant.0 c.loop-o-test.false; verdicts_after = all_listed c.loop-o.invariant.1 c.loop-o-test.false }

-- `talkback::Fit::first_unfitting` meets its contract: where all together fit, nothing is found. Assumes nothing.
use mathlib.Core.Path.{◌≡◌, sym, ap, ◌∙◌}
use mathlib.Core.Bool.{not}
use native.Mathlib.Omega.{arith}
use borrow.Author.Count.{below_more}
use borrow.Author.Rules.{sfits_of}
use lib.IntN.{pos}
use lib.ListN.{length, get_or}
use mir.Syntax.{w32}
use mir.Facts.{to_z-of_z}
use Rattle.std.proofs.Common.{Some, None}
use Rattle.bits.proofs.Places.{first-none}
use Rattle.talkback.specs.Inner.{unfitting}
use Rattle.talkback.proofs.Raising.{all-fitting, raised-fits, first-at}
use Rattle.talkback.proofs.Fit.first_unfitting.Goals as goal
use Rattle.talkback.proofs.Fit.first_unfitting.Goals.{After-admits-in-loop-i}

-- what was said of the sample that was read
module _ (c : After-admits-in-loop-i) where
  tells : unfitting c.args.self.half c.args.self.free c.args.samples.now c.loop-i.i ≡ not c.admits-in-loop-i.result
  unfolding unfitting
  tells =
      let f = c.args.self in
      ap not (sym (c.admits-in-loop-i.ensures
      ∙ raised-fits f.half f.free (get_or c.args.samples.now c.loop-i.i (pos 0)) c.raised.result
      (rw (to_z-of_z {w = w32} (sfits_of c.raised-arg-1.given)) at c.raised.ensures)))

pub returns-then-admits : goal.returns-then-admits
returns-then-admits c =
    let f = c.args.self in
    let s = c.args.samples.now in
    sym (first-none (unfitting f.half f.free s) (λ i. Some i) None 0 (length s)
    (λ i h. all-fitting f.half s f.free (length s) c.united.result c.united.ensures (sym c.admits.ensures ∙ c.if-admits.true) i (omega arith)))

pub returns-then-not-admits : goal.returns-then-not-admits
returns-then-not-admits c =
    let f = c.args.self in
    let s = c.args.samples.now in
    first-at (unfitting f.half f.free s) (λ i. Some i) None (length s) c.loop-i.i
    (tells (goal.at.returns-then-not-admits c).After-admits-in-loop-i ∙ ap not c.if-not-admits.true) c.loop-i.invariant c.loop-i-test.true

pub loop-i-preserved : goal.loop-i-preserved
loop-i-preserved c =
    below_more _ _ c.loop-i.invariant (tells (goal.at.loop-i-preserved c).After-admits-in-loop-i ∙ ap not c.if-not-admits.false)

pub returns : goal.returns
returns c =
    let f = c.args.self in
    let s = c.args.samples.now in
    sym (first-none (unfitting f.half f.free s) (λ i. Some i) None 0 (length s) (λ i h. c.loop-i.invariant i (omega arith)))

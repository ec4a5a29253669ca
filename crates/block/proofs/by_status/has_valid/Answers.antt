-- `block::by_status::has_valid` meets its contract: an octet of V is eight frames, and one is 0 where it is not 255. Assumes
-- nothing.
use mathlib.Core.Path.{refl, sym, ◌∙◌}
use mathlib.Core.List.{List}
use Prim.Native.Nat.{ℕ, ◌+◌, ◌*◌, ◌<◌}
use native.Mathlib.Omega.{arith}
use Rattle.block.specs.Side.{validity, columns, column_length}
use Rattle.block.specs.Check.{some_valid}
use Rattle.block.specs.Inner.{number_of}
use Rattle.block.proofs.Octets.{octet-one, octet-none, none_left}
use Rattle.block.proofs.by_status.has_valid.Goals.{At-loop-j}
use Rattle.block.proofs.by_status.has_valid.Goals as goal

module _ (c : At-loop-j) where
  abbrev side : List ℕ
  side = c.args.side.now

  abbrev k : ℕ
  k = columns * number_of c.args.channel + validity

  abbrev j : ℕ
  j = c.loop-j.j

  small : k < 2 * columns
  small = omega (arith, c.number.ensures)

pub loop-j-init : goal.loop-j-init
unfolding some_valid
loop-j-init c = refl

pub returns-then-side-at : goal.returns-then-side-at
returns-then-side-at c =
    let p = (goal.at.returns-then-side-at c).At-loop-j in
    sym (octet-one (side p) (k p) (j p) (small p) c.loop-j-test.true (c.fits-side (column_length * k p + j p)) (rw c.number.ensures.0 at c.if-side-at.true)) ∙ p.loop-j.invariant

pub loop-j-preserved : goal.loop-j-preserved
loop-j-preserved c =
    let p = (goal.at.loop-j-preserved c).At-loop-j in
    sym (octet-none (side p) (k p) (j p) (small p) c.loop-j-test.true (rw c.number.ensures.0 at c.if-side-at.false)) ∙ p.loop-j.invariant

pub returns : goal.returns
returns c =
    let p = (goal.at.returns c).At-loop-j in
    sym (none_left (side p) (k p) (j p) (omega arith)) ∙ p.loop-j.invariant

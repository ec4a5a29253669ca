-- `block::status_right` meets its contract, by the tests on the length and the channel. Assumes nothing.
use mathlib.Core.Path.{◌≡◌, ap, ◌∙◌}
use Prim.Native.Nat.{ℕ, ◌+◌, ◌-◌, ◌*◌}
use native.Mathlib.Omega.{arith}
use borrow.Author.Tests.{eq-eqb, ne_eqb, lt-ltb, le-ltb}
use lib.ListN.{take, drop}
use Rattle.codes.specs.Crcc.{crcc_right}
use Rattle.block.specs.Side.{status, columns, column_length, column_in}
use Rattle.block.specs.Check.{status_of, status_right}
use Rattle.block.proofs.status_right.Goals.{then-side-ne-SIDE-via-then-side-ne-SIDE, then-side-ne-SIDE-via-else-side-ne-SIDE+then-channel-ge2}
use Rattle.block.proofs.status_right.Goals as goal

pub returns-then-side-ne-SIDE : goal.returns-then-side-ne-SIDE
unfolding status_right
returns-then-side-ne-SIDE c =
    elim c.then-side-ne-SIDE.branch [
      | then-side-ne-SIDE-via-then-side-ne-SIDE w ↦ simp (ne_eqb _ _ w.if-side-ne-SIDE.true)
      | then-side-ne-SIDE-via-else-side-ne-SIDE+then-channel-ge2 w ↦ simp (eq-eqb _ _ w.if-side-ne-SIDE.false, le-ltb _ _ w.if-channel-ge2.true)
    ]

pub returns : goal.returns
unfolding status_right status_of column_in
returns c =
    let a = column_length * (columns * c.args.channel + status) in
    let n : a + column_length - a ≡ column_length = omega arith in
    simp (eq-eqb _ _ c.if-side-ne-SIDE.false, lt-ltb _ _ c.if-channel-ge2.false)
    (c.crcc_right.ensures ∙ ap (λ (k : ℕ). crcc_right (take k (drop a c.args.side.now))) n)

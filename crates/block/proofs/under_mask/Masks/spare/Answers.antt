-- `block::under_mask::Masks::spare` meets its contract. Assumes nothing.
use native.Mathlib.Omega.{arith}
use borrow.Author.Tests.{eqb-true}
use lib.Bits.{or_add_and, and_le_l, and_le_r}
use Rattle.block.proofs.under_mask.Masks.spare.Goals as goal

pub returns : goal.returns
returns c e =
    let a = c.args.self.a in
    let b = c.args.self.b in
    let s = or_add_and a b in (
      omega (arith, s, and_le_r a b, c.if-self-ge8388608.false),
      omega (arith, s, and_le_l a b, c.if-self-ge8388608.false),
      eqb-true _ 0 (rw (c.from.ensures, c.from-2.ensures) at e),
    )

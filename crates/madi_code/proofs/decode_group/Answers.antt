-- `madi_code::decode_group` meets its contract: the table is right at each of its 32 entries, and no group is above
-- them. Assumes nothing.
use borrow.Author.Tests.{lt-ltb, le-ltb, eq-eqb, ne_eqb}
use lib.ListN.{get_or}
use native.Mathlib.Omega.{arith}
use Rattle.std.proofs.lemmas.Bool.Decides.{nat_tests}
use Rattle.madi_code.proofs.GroupLaws.{group-above, meanings, group-table}
use Rattle.madi_code.proofs.decode_group.Goals as goal

pub returns-then-g-ge32 : goal.returns-then-g-ge32
returns-then-g-ge32 c = rw (group-above c.args.g c.if-g-ge32.true)

pub returns-then-x-lt16 : goal.returns-then-x-lt16
returns-then-x-lt16 c = rw (← c.from.ensures, group-table c.from.result (omega arith), lt-ltb _ _ c.if-x-lt16.true)

pub returns-in-129 : goal.returns-in-129
returns-in-129 c = rw (← c.from.ensures, group-table c.from.result (omega arith), le-ltb _ _ c.if-x-lt16.false, eq-eqb _ _ c.in-129.is)

pub returns-in_default-2 : goal.returns-in_default-2
returns-in_default-2 c = rw (← c.from.ensures, group-table c.from.result (omega arith), le-ltb _ _ c.if-x-lt16.false, ne_eqb (get_or meanings c.from.result 0) 129 (grind (arith, nat_tests)))

-- `madi_code::bits_by` meets its contract: the two halves, side by side. Assumes nothing.
use borrow.Author.Rules.{rules}
use Rattle.madi_code.specs.Inner.{eight_groups}
use Rattle.madi_code.proofs.bits_by.Goals as goal

pub returns : goal.returns
unfolding eight_groups
returns c = search rules

-- `madi_code::four_groups` meets its contract: four loads, side by side. Assumes nothing.
use borrow.Author.Rules.{rules}
use Rattle.madi_code.specs.Inner.{four_groups}
use Rattle.madi_code.proofs.four_groups.Goals as goal

pub returns : goal.returns
unfolding four_groups
returns c = search rules

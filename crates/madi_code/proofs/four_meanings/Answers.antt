-- `madi_code::four_meanings` meets its contract: four loads, added up and side by side. Assumes nothing.
use borrow.Author.Rules.{rules}
use Rattle.madi_code.specs.Inner.{four_sum, four_fours}
use Rattle.madi_code.proofs.four_meanings.Goals as goal

pub returns : goal.returns
unfolding four_sum four_fours
returns c = search rules

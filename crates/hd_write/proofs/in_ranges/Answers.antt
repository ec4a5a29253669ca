-- `hd_write::in_ranges` meets its contract, test by test. Assumes nothing.
use borrow.Author.Rules.{rules}
use Rattle.hd_write.specs.Write.{in_ranges}
use Rattle.hd_write.proofs.in_ranges.Goals as goal

pub returns-then-f-le1-2 : goal.returns-then-f-le1-2
unfolding in_ranges
returns-then-f-le1-2 c = search rules

pub returns-else-f-le1-2 : goal.returns-else-f-le1-2
unfolding in_ranges
returns-else-f-le1-2 c = search rules

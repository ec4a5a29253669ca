-- `report::put_count` meets its contract. Assumes nothing.
use Rattle.report.specs.Text.{count_line}
use borrow.Author.Rules.{rules}
use Rattle.report.proofs.put_count.Goals as goal

pub returns : goal.returns
unfolding count_line
returns c = record { put = c.put_single.ensures.put; lower_bound = search rules }

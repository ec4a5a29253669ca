-- `report::count_line` meets its contract. Assumes nothing.
use Rattle.report.proofs.TextLaws.{put-start, put_all}
use borrow.Author.Rules.{rules}
use Rattle.report.proofs.count_line.Goals as goal

pub returns : goal.returns
returns c = record { value = put-start (search rules) c.put_count.ensures.put; out_after = put_all (search rules) c.put_count.ensures.put }

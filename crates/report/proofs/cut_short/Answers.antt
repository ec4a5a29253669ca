-- `report::cut_short` meets its contract. Assumes nothing.
use Rattle.report.proofs.TextLaws.{put_then, put-start, put_all}
use borrow.Author.Rules.{rules}
use Rattle.report.proofs.cut_short.Goals as goal

pub returns : goal.returns
returns c =
    let both = put_then c.put_count-t.ensures.put c.put.ensures in
    record { value = put-start (search rules) both; out_after = put_all (search rules) both }

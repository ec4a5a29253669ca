-- `report::end_replay` meets its contract. Assumes nothing.
use Rattle.report.specs.Night.{figures_text}
use Rattle.report.proofs.TextLaws.{put_then, put-start, put_all}
use borrow.Author.Rules.{rules}
use Rattle.report.proofs.end_replay.Goals as goal

pub returns : goal.returns
unfolding figures_text
returns c =
    let last = put_then c.put_end-t.ensures.put c.put_refusals-t.ensures.put in
    let all = put_then (put_then (put_then (put_then last c.put_lines-t.ensures.put) c.put_lines-t-2.ensures.put) c.put_lines-t-3.ensures.put)
    c.put_lines.ensures.put in
    record { value = put-start (search rules) all; out_after = put_all (search rules) all }

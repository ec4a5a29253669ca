-- `report::put_line` meets its contract. Assumes nothing.
use Rattle.report.specs.Text.{line_of}
use Rattle.report.proofs.TextLaws.{put_then}
use Rattle.report.proofs.put_line.Goals as goal

pub returns : goal.returns
unfolding line_of
returns c =
    put_then c.put_answer-t.ensures.put c.put_number.ensures.put

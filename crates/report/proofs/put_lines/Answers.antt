-- `report::put_lines` meets its contract. Assumes nothing.
use Rattle.report.specs.Night.{group_lines}
use Rattle.report.proofs.TextLaws.{put_then}
use borrow.Author.Rules.{rules}
use Rattle.report.proofs.put_lines.Goals as goal

pub returns : goal.returns
unfolding group_lines
returns c =
    record { put = put_then c.put_refusals-t.ensures.put c.put_group.ensures.put; end_bound = search rules }

-- `report::put_group` meets its contract. Assumes nothing.
use Rattle.report.specs.Night.{group_line}
use Rattle.report.specs.Inner.{tail_text}
use Rattle.report.proofs.TextLaws.{put_then}
use borrow.Author.Rules.{rules}
use Rattle.report.proofs.put_group.Goals as goal

pub returns : goal.returns
unfolding group_line tail_text
returns c =
    record {
      put = put_then (put_then (put_then c.put_tail-t.ensures.put c.put_field-t.ensures.put) c.put_field-t-2.ensures.put)
          c.put_name.ensures.put;
      end_bound = search rules;
    }

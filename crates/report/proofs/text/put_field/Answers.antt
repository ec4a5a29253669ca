-- `report::text::put_field` meets its contract. Assumes nothing.
use Rattle.report.specs.Night.{field_text}
use Rattle.report.proofs.TextLaws.{put_then}
use borrow.Author.Rules.{rules}
use Rattle.report.proofs.text.put_field.Goals as goal

pub returns : goal.returns
unfolding field_text
returns c =
    record { put = put_then (rw c.from.ensures at c.put_number-t.ensures.put) c.put.ensures; end_bound = search rules }

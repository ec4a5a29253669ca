-- `report::text::put_single` meets its contract. Assumes nothing.
use mathlib.Core.List.{append_assoc}
use Rattle.report.specs.Text.{single_text}
use Rattle.report.proofs.TextLaws.{put_then, put_as}
use borrow.Author.Rules.{rules}
use Rattle.report.proofs.text.put_single.Goals as goal

pub returns : goal.returns
unfolding single_text
returns c =
    record { put = put_as (simp append_assoc) (put_then (put_then c.put_octet-t.ensures c.put_number-t.ensures.put) c.put.ensures); end_bound = search rules }

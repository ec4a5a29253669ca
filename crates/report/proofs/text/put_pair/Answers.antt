-- `report::text::put_pair` meets its contract. Assumes nothing.
use mathlib.Core.List.{append_assoc}
use Rattle.report.specs.Text.{pair_text}
use Rattle.report.proofs.TextLaws.{put_then, put_as}
use borrow.Author.Rules.{rules}
use Rattle.report.proofs.text.put_pair.Goals as goal

pub returns : goal.returns
unfolding pair_text
returns c =
    let numbers = put_then (put_then c.put_octet-t.ensures (rw c.from.ensures at c.put_number-t.ensures.put)) c.put_octet-t-2.ensures in
    record { put = put_as (simp append_assoc) (put_then (put_then numbers (rw c.from-2.ensures at c.put_number-t-2.ensures.put)) c.put.ensures); end_bound = search rules }

-- `report::put_tail` meets its contract. Assumes nothing.
use mathlib.Core.Path.{ap}
use Rattle.report.specs.Text.{single_text}
use Rattle.report.specs.Night.{breaks_word}
use Rattle.report.specs.Inner.{tail_text}
use Rattle.report.proofs.TextLaws.{put_then, put_as}
use borrow.Author.Rules.{rules}
use Rattle.report.proofs.put_tail.Goals as goal

pub returns : goal.returns
unfolding tail_text
returns c =
    let end = put_as (ap (single_text breaks_word) c.wide.ensures) c.put_single-t.ensures.put in
    record { put = put_then end c.put_last.ensures.put; end_bound = search rules }

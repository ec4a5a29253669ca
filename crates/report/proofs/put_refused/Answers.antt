-- `report::put_refused` meets its contract. Assumes nothing.
use mathlib.Core.Path.{sym, ◌∙◌}
use borrow.Author.Tests.{eq-eqb}
use Rattle.report.specs.Night.{refused_line}
use Rattle.report.proofs.TextLaws.{put-nothing, put_then, put_as}
use Rattle.report.proofs.NightLaws.{refused-some}
use borrow.Author.Rules.{rules}
use Rattle.report.proofs.put_refused.Goals as goal

pub returns-then-count-eq0 : goal.returns-then-count-eq0
unfolding refused_line
returns-then-count-eq0 c =
    record { put = put_as (rw (eq-eqb _ 0 (sym c.refused_count-count.ensures ∙ c.if-count-eq0.true))) (put-nothing _ _); end_bound = search rules }

pub returns : goal.returns
returns c =
    record { put = put_as (refused-some _ _ _ c.refused_count-count.ensures c.if-count-eq0.false) (put_then c.put_pair-t.ensures.put c.put_name.ensures.put); end_bound = search rules }

-- `report::put_last` meets its contract. Assumes nothing.
use native.Mathlib.Omega.{arith}
use borrow.Author.Tests.{eq-eqb, ne_eqb}
use Rattle.report.specs.Night.{last_text}
use Rattle.report.proofs.TextLaws.{put_as}
use borrow.Author.Rules.{rules}
use Rattle.report.proofs.put_last.Goals as goal

pub returns-then-seen-eq0 : goal.returns-then-seen-eq0
unfolding last_text
returns-then-seen-eq0 c =
    record { put = put_as (rw (eq-eqb _ 0 c.if-seen-eq0.true)) c.put.ensures; end_bound = omega (arith, c.put.ensures.ends) }

pub returns : goal.returns
unfolding last_text
returns c =
    record { put = put_as (rw (ne_eqb _ 0 c.if-seen-eq0.false)) c.put_field.ensures.put; end_bound = search rules }

-- `report::put_name` meets its contract. Assumes nothing.
use borrow.Author.Tests.{eq-eqb, ne_eqb}
use native.Mathlib.Omega.{arith}
use Rattle.report.specs.Night.{name_of}
use Rattle.report.proofs.TextLaws.{put_as}
use borrow.Author.Rules.{rules}
use Rattle.report.proofs.put_name.Goals as goal

pub returns-then-group-eq0 : goal.returns-then-group-eq0
unfolding name_of
returns-then-group-eq0 c =
    record { put = put_as (rw (eq-eqb _ 0 c.if-group-eq0.true)) c.put.ensures; end_bound = omega (arith, c.put.ensures.ends) }

pub returns : goal.returns
unfolding name_of
returns c =
    record { put = put_as (rw (ne_eqb _ 0 c.if-group-eq0.false)) c.put_field.ensures.put; end_bound = search rules }

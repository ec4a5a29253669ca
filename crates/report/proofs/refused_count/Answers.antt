-- `report::refused_count` meets its contract. Assumes nothing.
use borrow.Author.Tests.{eq-eqb, ne_eqb}
use Rattle.report.specs.Night.{refused_count}
use Rattle.report.proofs.refused_count.Goals as goal

pub returns-then-group-eq0 : goal.returns-then-group-eq0
unfolding refused_count
returns-then-group-eq0 c = rw (eq-eqb _ 0 c.if-group-eq0.true)

pub returns : goal.returns
unfolding refused_count
returns c = rw (ne_eqb _ 0 c.if-group-eq0.false)

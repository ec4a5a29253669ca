-- `leases::move_down` meets its contract: what is done stands in front, and the rest gives the whole. Assumes nothing.
use Rattle.leases.proofs.MoveTurns.{moves-one, passes-one, moved}
use Rattle.leases.proofs.move_down.Goals as goal
use Rattle.leases.proofs.move_down.Goals.{then-x-ne0, else-x-ne0}

pub loop-old-preserved : goal.loop-old-preserved
loop-old-preserved c =
    elim c.if-x-ne0.branch [
      | then-x-ne0 w ↦ moves-one c.loop-old.invariant c.loop-old-test.true w.if-x-ne0.true w.table-is w.moves-is w.new-is
      | else-x-ne0 w ↦ passes-one c.loop-old.invariant c.loop-old-test.true w.if-x-ne0.false w.table-is w.moves-is w.new-is
    ]

pub returns : goal.returns
returns c = moved c.loop-old.invariant c.loop-old-test.false

-- `leases::move_down` meets its contract: what is done stands in front, and the rest gives the whole. Assumes nothing.
use Rattle.leases.proofs.MoveTurns.{Moving}
use Rattle.leases.proofs.move_down.Given as goal

abbrev pub invariant-loop-old : goal.invariant-loop-old
invariant-loop-old l = Moving l.initial.table l.table l.moves l.new l.old

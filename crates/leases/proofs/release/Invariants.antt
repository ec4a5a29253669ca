-- `leases::release` meets its contract: what is done stands in front, and returning the rest gives the whole. Assumes
-- nothing.
use Rattle.leases.specs.Table.{returned}
use Rattle.leases.proofs.Turns.{Doing}
use Rattle.leases.proofs.release.Given as goal

abbrev pub invariant-loop-holder : goal.invariant-loop-holder
invariant-loop-holder l = Doing (returned l.t) (returned l.t l.initial.table) l.initial.table l.table l.holder-index

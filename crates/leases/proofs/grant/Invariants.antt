-- `leases::grant` meets its contract: what is done stands in front, and granting in the rest gives the whole. Assumes
-- nothing.
use Rattle.leases.specs.Table.{granted}
use Rattle.leases.proofs.Turns.{Doing}
use Rattle.leases.proofs.grant.Given as goal

abbrev pub invariant-loop-x : goal.invariant-loop-x
invariant-loop-x l = Doing (granted l.t l.left) (granted l.t l.n l.initial.table) l.initial.table l.table l.x-index

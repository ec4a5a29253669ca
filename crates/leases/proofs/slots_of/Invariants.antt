-- `leases::slots_of` meets its contract: the slots from k on are in the number. Assumes nothing.
use mathlib.Core.Path.{◌≡◌}
use lib.ListN.{drop}
use Rattle.leases.specs.Table.{slots_of}
use Rattle.leases.proofs.slots_of.Given as goal

abbrev pub invariant-loop-k : goal.invariant-loop-k
invariant-loop-k l = l.slots ≡ slots_of l.t (drop l.k l.table)

-- `leases::count_of` meets its contract: what is counted and what is left are the whole. Assumes nothing.
use mathlib.Core.Path.{◌≡◌}
use Prim.Native.Nat.{◌+◌, ◌≤◌}
use lib.ListN.{drop}
use Rattle.leases.specs.Table.{held_by}
use Rattle.leases.proofs.count_of.Given as goal

abbrev pub invariant-loop-x : goal.invariant-loop-x
invariant-loop-x l = (l.n ≤ l.x-index) × (l.n + held_by l.t (drop l.x-index l.table) ≡ held_by l.t l.table)

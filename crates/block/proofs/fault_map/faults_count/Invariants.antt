-- `block::fault_map::faults_count` meets its contract: those counted, with those that are left, are all. Assumes nothing.
use mathlib.Core.Path.{◌≡◌}
use Prim.Native.Nat.{◌+◌, ◌-◌, ◌≤◌}
use Rattle.bits.specs.Row.{count}
use Rattle.bits.specs.Listed.{listed}
use Rattle.block.specs.Inner.{some_fault}
use Rattle.block.proofs.fault_map.faults_count.Given as goal

abbrev pub invariant-loop-j : goal.invariant-loop-j
invariant-loop-j l = (l.n ≤ l.j) × (l.n + count (listed l.j (24 - l.j) (some_fault l.side)) ≡ count (listed 0 24 (some_fault l.side)))

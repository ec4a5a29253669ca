-- `block::fault_map::check` meets its contract: no place before i has an E that is set. Assumes nothing.
use mathlib.Core.Path.{◌≡◌}
use mathlib.Core.Bool.{false}
use Prim.Native.Nat.{ℕ, ◌<◌}
use Rattle.block.specs.Check.{faulty}
use Rattle.block.proofs.fault_map.check.Given as goal

abbrev pub invariant-loop-i : goal.invariant-loop-i
invariant-loop-i l = (k : ℕ) → k < l.i → faulty l.side k ≡ false

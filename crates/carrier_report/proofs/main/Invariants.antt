-- `carrier_report::main` meets its contract. Assumes nothing.
use mathlib.Core.Path.{◌≡◌}
use Prim.Native.Nat.{◌-◌, ◌≤◌}
use lib.ListN.{length}
use Rattle.carrier_report.proofs.main.Given as goal

abbrev pub invariant-loop-input : goal.invariant-loop-input
invariant-loop-input l = (length l.head ≡ 4) × (length l.body ≡ 8192) × (length l.out ≡ 128) × (l.n ≤ 18446744073709551615)

abbrev pub decreases-loop-input : goal.decreases-loop-input
decreases-loop-input l = 18446744073709551615 - l.n

-- `trial_report::run` meets its contract. Assumes nothing.
use mathlib.Core.Path.{◌≡◌}
use Prim.Native.Nat.{◌-◌, ◌≤◌}
use lib.ListN.{length}
use Rattle.trial_report.proofs.run.Given as goal

abbrev pub invariant-loop-out : goal.invariant-loop-out
invariant-loop-out l = (length l.out ≡ 128) × (l.n ≤ 18446744073709551615) × (l.at ≤ length l.input)

abbrev pub decreases-loop-out : goal.decreases-loop-out
decreases-loop-out l = 18446744073709551615 - l.n

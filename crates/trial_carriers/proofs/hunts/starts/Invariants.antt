-- `trial_carriers::hunts::starts` is safe and ends. Assumes nothing.
use Prim.Native.Nat.{◌-◌, ◌≤◌}
use Rattle.trial_carriers.proofs.hunts.starts.Given as goal

abbrev pub invariant-loop-k : goal.invariant-loop-k
invariant-loop-k l = l.k ≤ 144

abbrev pub decreases-loop-k : goal.decreases-loop-k
decreases-loop-k l = 144 - l.k

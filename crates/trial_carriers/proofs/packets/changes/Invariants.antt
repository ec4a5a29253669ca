-- `trial_carriers::packets::changes` is safe and ends. Assumes nothing.
use Prim.Native.Nat.{◌-◌, ◌≤◌}
use Rattle.trial_carriers.proofs.packets.changes.Given as goal

abbrev pub invariant-loop-c : goal.invariant-loop-c
invariant-loop-c l = l.c ≤ 496

abbrev pub decreases-loop-c : goal.decreases-loop-c
decreases-loop-c l = 496 - l.c

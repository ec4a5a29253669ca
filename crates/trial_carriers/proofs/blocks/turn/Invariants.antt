-- `trial_carriers::blocks::turn` is safe and ends. Assumes nothing.
use mathlib.Core.Path.{◌≡◌}
use Prim.Native.Nat.{◌-◌}
use lib.ListN.{length}
use Rattle.trial_carriers.proofs.blocks.turn.Given as goal

abbrev pub invariant-loop-k : goal.invariant-loop-k
invariant-loop-k l = length l.line ≡ length l.initial.line

abbrev pub decreases-loop-k : goal.decreases-loop-k
decreases-loop-k l = 24576 - l.k

-- `codes::eight_lanes::gather` meets its contract: the number is the lane of the octets so far. Assumes nothing.
use mathlib.Core.Path.{◌≡◌}
use lib.ListN.{take}
use Rattle.codes.specs.Lanes.{lane_of}
use Rattle.codes.proofs.eight_lanes.gather.Given as goal

abbrev pub invariant-loop-n : goal.invariant-loop-n
invariant-loop-n l = l.lane ≡ lane_of l.fn.i (take l.n l.fn.s)

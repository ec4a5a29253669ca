-- `codes::lane_check` meets its contract: the places that are left still go through the stages. Assumes nothing.
use mathlib.Core.Path.{◌≡◌}
use Prim.Native.Nat.{◌-◌, ◌≤◌, ◌<◌}
use Rattle.bits.specs.Row.{bits}
use Rattle.codes.specs.Divide.{through}
use Rattle.codes.specs.Lane.{lane_generator, lane_check}
use Rattle.codes.proofs.lane_check.Given as goal

abbrev pub invariant-loop : goal.invariant-loop
invariant-loop l = (l.counter ≤ 24) × (l.stages < 64) × (through 6 lane_generator l.stages (bits (24 - l.counter) l.rest) ≡ lane_check l.lane)

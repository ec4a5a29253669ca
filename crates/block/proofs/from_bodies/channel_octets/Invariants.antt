-- `block::from_bodies::channel_octets` meets its contract: after m turns n holds the last m of the eight frames. Assumes nothing.
use mathlib.Core.Path.{◌≡◌}
use Prim.Native.Nat.{◌+◌, ◌-◌, ◌*◌}
use Rattle.block.specs.Side.{column_bits}
use Rattle.block.specs.Inner.{number_of, gathered}
use Rattle.block.proofs.from_bodies.channel_octets.Given as goal

abbrev pub invariant-loop-m : goal.invariant-loop-m
invariant-loop-m l = l.n ≡ gathered column_bits l.bodies (number_of l.channel) (l.j * 8 + 8 - l.m) l.m

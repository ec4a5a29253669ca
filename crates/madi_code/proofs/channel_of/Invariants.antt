-- `madi_code::channel_of` meets its contract: what is left of the channel is what the definition has left. Assumes
-- nothing.
use mathlib.Core.Path.{◌≡◌}
use Prim.Native.Nat.{◌-◌, ◌*◌, ◌^◌, ◌≤◌, ◌<◌}
use Rattle.bits.specs.Row.{big_bits}
use Rattle.madi_code.specs.Channels.{channel_from, channel_of}
use Rattle.madi_code.proofs.channel_of.Given as goal

abbrev pub invariant-loop-g : goal.invariant-loop-g
invariant-loop-g l = (l.g ≤ 8) × (l.w < 2 ^ (4 * l.g)) × (channel_from (big_bits 40 l.v) (8 - l.g) l.g l.w ≡ channel_of (big_bits 40 l.v))

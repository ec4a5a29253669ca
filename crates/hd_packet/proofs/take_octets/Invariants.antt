-- `hd_packet::take_octets` meets its contract: after k turns the first k octets are those of the words. Assumes nothing.
use mathlib.Core.Path.{◌≡◌}
use Prim.Native.Nat.{◌≤◌}
use Rattle.bits.proofs.Filling.{over}
use Rattle.hd_packet.specs.Packet.{octets_of}
use Rattle.hd_packet.proofs.take_octets.Given as goal

abbrev pub invariant-loop-k : goal.invariant-loop-k
invariant-loop-k l = (l.k ≤ 30) × (l.octets ≡ over l.k (octets_of l.words) l.initial.octets)

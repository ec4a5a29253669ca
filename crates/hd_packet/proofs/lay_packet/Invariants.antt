-- `hd_packet::lay_packet` meets its contract: up to word k the words are the packet's. Assumes nothing.
use mathlib.Core.Path.{◌≡◌}
use Prim.Native.Nat.{◌≤◌}
use Rattle.bits.proofs.Filling.{over}
use Rattle.hd_packet.specs.Packet.{packet_of}
use Rattle.hd_packet.proofs.lay_packet.Given as goal

abbrev pub invariant-loop-k : goal.invariant-loop-k
invariant-loop-k l = (3 ≤ l.k) × (l.k ≤ 30) × (l.words ≡ over l.k (packet_of l.octets) l.initial.words)

-- `hd_read::read_right` meets its contract: the octets that it takes are those of the words. Assumes nothing.
use mathlib.Core.Path.{refl, ap, ◌∙◌}
use mathlib.Core.List.{List}
use Prim.Native.Nat.{ℕ}
use native.Mathlib.Omega.{arith}
use Rattle.hd_packet.proofs.PacketLaws.{taken}
use Rattle.hd_read.specs.Inner.{octets_read}
use Rattle.hd_read.proofs.read_right.Goals as goal

pub returns : goal.returns
returns c =
    let a = c.args in
    c.read_octets.ensures ∙ ap (λ (os : List ℕ). octets_read a.group os) (c.take_octets.ensures ∙ taken a.words.now _ (omega arith) refl)

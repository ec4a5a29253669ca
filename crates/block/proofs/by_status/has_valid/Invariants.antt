-- `block::by_status::has_valid` meets its contract: an octet of V is eight frames, and one is 0 where it is not 255. Assumes
-- nothing.
use mathlib.Core.Path.{◌≡◌}
use Prim.Native.Nat.{◌+◌, ◌-◌, ◌*◌}
use Rattle.bits.proofs.Places.{some}
use Rattle.block.specs.Side.{validity, columns}
use Rattle.block.specs.Check.{some_valid}
use Rattle.block.specs.Inner.{number_of}
use Rattle.block.proofs.Octets.{no_v}
use Rattle.block.proofs.by_status.has_valid.Given as goal

abbrev pub invariant-loop-j : goal.invariant-loop-j
invariant-loop-j l =
    some (no_v l.side (columns * number_of l.fn.channel + validity)) (l.j * 8) (192 - l.j * 8) ≡ some_valid l.side (number_of l.fn.channel)

-- `aes3_write::write_sixteen` meets its contract. The loop's invariant: the octets written, with the rest of the line
-- behind them, are the line from the first of the sixteen on; the next preamble, and V, U and C of the subframes that
-- are left, stand ready. Assumes nothing.
use mathlib.Core.Path.{◌≡◌}
use mathlib.Core.List.{◌++◌}
use Prim.Native.Nat.{◌+◌, ◌-◌, ◌*◌}
use lib.ListN.{take, drop}
use Rattle.bits.specs.Row.{odd, big}
use Rattle.block.specs.Block.{bodies_of}
use Rattle.aes3_line.specs.Subframe.{due}
use Rattle.aes3_line.specs.Line.{line_from}
use Rattle.aes3_write.specs.Inner.{flags_from}
use Rattle.aes3_write.proofs.write_sixteen.Given as goal

abbrev pub invariant-loop-f : goal.invariant-loop-f
invariant-loop-f l = (l.left ≡ flags_from l.side (16 * l.j + 2 * l.f) (16 - 2 * l.f))
    × (l.m ≡ big (due (16 * l.j + 2 * l.f)))
    × (take (l.f * 16) l.part ++ line_from (16 * l.j + 2 * l.f) (odd l.level) (drop (16 * l.j + 2 * l.f) (bodies_of l.samples l.side))
    ≡ line_from (16 * l.j) (odd l.level) (drop (16 * l.j) (bodies_of l.samples l.side)))

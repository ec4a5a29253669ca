-- `aes3_write::write_line` meets its contract. The loop's invariant: the octets written, followed by those of the
-- bodies that are left, are the whole line. Assumes nothing.
use mathlib.Core.Path.{◌≡◌}
use mathlib.Core.List.{◌++◌}
use Prim.Native.Nat.{◌*◌}
use lib.ListN.{take, drop}
use Rattle.bits.specs.Row.{odd}
use Rattle.block.specs.Block.{bodies_of}
use Rattle.aes3_line.specs.Line.{line_from}
use Rattle.aes3_write.specs.Writer.{block_line}
use Rattle.aes3_write.proofs.write_line.Given as goal

abbrev pub invariant-loop-j : goal.invariant-loop-j
invariant-loop-j l = (take (l.j * 128) l.line ++ line_from (16 * l.j) (odd l.level) (drop (16 * l.j) (bodies_of l.samples l.side)) ≡ block_line l.samples l.side l.level)

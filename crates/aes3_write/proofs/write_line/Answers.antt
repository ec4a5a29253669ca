-- `aes3_write::write_line` meets its contract. The loop's invariant: the octets written, followed by those of the
-- bodies that are left, are the whole line. Assumes nothing.
use mathlib.Core.Path.{◌≡◌, refl, ◌∙◌}
use Prim.Native.Nat.{◌+◌, ◌-◌, ◌*◌, ◌<◌}
use native.Mathlib.Omega.{arith}
use borrow.Author.Rules.{rules}
use lib.ListN.{length, drop, length-take, length-drop}
use Rattle.bits.specs.Row.{odd}
use Rattle.bits.proofs.Filling.{filled-part}
use Rattle.block.specs.Side.{column_length}
use Rattle.block.specs.Block.{bodies_of}
use Rattle.block.proofs.BlockLaws.{length-bodies}
use Rattle.aes3_line.specs.Line.{line_from}
use Rattle.aes3_write.specs.Writer.{block_line}
use Rattle.aes3_write.proofs.LineWriting.{all-written}
use Rattle.aes3_write.proofs.write_line.Goals as goal
use Rattle.aes3_write.proofs.write_line.Goals.{At-loop-j}

pub loop-j-init : goal.loop-j-init
unfolding block_line
loop-j-init c = refl

pub write_sixteen-requires : goal.write_sixteen-requires
write_sixteen-requires c =
    (c.requires.0, c.loop-j-test.true, search rules)

pub loop-j-preserved : goal.loop-j-preserved
loop-j-preserved c =
    let at = (goal.at.loop-j-preserved c).At-loop-j in
    let loop = at.loop-j in
    let a = c.args in
    let wrote = c.write_sixteen in
    let o = wrote.new.part in
    let kept = wrote.auto.part in
    let bodies = bodies_of a.samples.now a.side.now in
    let rest = line_from (16 * loop.j + 16) (odd a.level) (drop (16 * loop.j + 16) bodies) in
    let t : loop.j < column_length = c.loop-j-test.true in
    let k : loop.j * 128 + 128 - loop.j * 128 ≡ 128 = omega arith in
    let z : length o ≡ 128 = kept ∙ rw (k, length-take, length-drop) (omega arith) in
    let e : 16 * (loop.j + 1) ≡ 16 * loop.j + 16 = omega arith in
    let s : (loop.j + 1) * 128 ≡ loop.j * 128 + 128 = omega arith in
    rw (e, s) (filled-part loop.line o _ rest _ (loop.j * 128) 128 (omega arith) z (rw (← wrote.ensures) at loop.invariant))

pub returns : goal.returns
returns c =
    let loop = c.loop-j in
    let a = c.args in
    let n : length (bodies_of a.samples.now a.side.now) ≡ 384 = length-bodies a.samples.now a.side.now in
    all-written loop.line (bodies_of a.samples.now a.side.now) _ (16 * loop.j) (loop.j * 128) (odd a.level) (omega arith) (omega arith) loop.invariant

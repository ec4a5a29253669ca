-- `aes3_read::decode` meets its contract. The loop's invariant: the bodies found, in front of what reading the rest
-- gives, are what reading the whole gives; the level is the last symbol of what was read. Assumes nothing.
use mathlib.Core.Path.{◌≡◌}
use Prim.Native.Nat.{◌*◌, ◌-◌}
use lib.ListN.{length, take, drop}
use Rattle.bits.specs.Row.{odd}
use Rattle.aes3_line.specs.Line.{bodies_from, bodies_on}
use Rattle.aes3_line.proofs.Turns.{front}
use Rattle.aes3_read.proofs.decode.Given as goal

abbrev pub invariant-loop-i : goal.invariant-loop-i
invariant-loop-i l = (length l.bodies ≡ 384) × (front (take l.i l.bodies) (bodies_from (384 - l.i) l.i (odd l.before) (drop (l.i * 8) l.line)) ≡ bodies_on l.line)

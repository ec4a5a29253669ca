-- `madi_write::Frame::lay_fours` meets its contract: the octets passed are the frame's, and `end` is the level before the
-- next block. Assumes nothing.
use Prim.Native.Nat.{ℕ, ◌+◌, ◌<◌}
use Rattle.madi_write.specs.Inner.{LevelAt, Passed}
use Rattle.madi_write.proofs.Frame.lay_fours.Given as goal

abbrev pub invariant-loop-i : goal.invariant-loop-i
invariant-loop-i l = (l.end < 2)
    × ((level : ℕ) → LevelAt l.self.channels l.self.words.now l.self.commands.now level l.last l.self.channels
    → Passed l.self.channels l.self.words.now l.self.commands.now level l.initial.line l.self.channels l.line l.end (l.self.channels + l.i))

-- `madi_write::Frame::lay_active` meets its contract: the octets passed are the frame's, and `last` is the level before
-- the next block. Assumes nothing.
use Rattle.madi_write.specs.Inner.{Passed}
use Rattle.madi_write.proofs.Frame.lay_active.Given as goal

abbrev pub invariant-loop-b : goal.invariant-loop-b
invariant-loop-b l = Passed l.self.channels l.self.words.now l.self.commands.now l.level l.initial.line 0 l.line l.last l.b

-- `madi_write::Frame::lay_inactive` meets its contract: the level is what it was, and with it what is stored. Assumes
-- nothing.
use Prim.Native.Nat.{ℕ}
use lib.ListN.{length}
use Rattle.madi_write.specs.Inner.{LevelAt, Passed}
use Rattle.madi_write.proofs.Frame.lay_inactive.Given as goal

abbrev pub invariant-loop-b : goal.invariant-loop-b
invariant-loop-b l =
    (level : ℕ) → LevelAt l.self.channels l.self.words.now l.self.commands.now level l.last (length l.self.words.now)
    → Passed l.self.channels l.self.words.now l.self.commands.now level l.initial.line (length l.self.words.now) l.line l.last l.b

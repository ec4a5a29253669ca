-- `talkback::Fit::united` meets its contract: each sample goes to those before it. Assumes nothing.
use Rattle.talkback.specs.Inner.{Unites}
use Rattle.talkback.proofs.Fit.united.Given as goal

abbrev pub invariant-loop-x : goal.invariant-loop-x
invariant-loop-x l = Unites l.self.half l.samples l.x-index l.all

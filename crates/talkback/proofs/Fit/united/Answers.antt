-- `talkback::Fit::united` meets its contract: each sample goes to those before it. Assumes nothing.
use borrow.Author.Rules.{sfits_of}
use mir.Syntax.{w32}
use mir.Facts.{to_z-of_z}
use Rattle.talkback.proofs.Raising.{unites-next}
use Rattle.talkback.proofs.Fit.united.Goals as goal

pub loop-x-preserved : goal.loop-x-preserved
loop-x-preserved c =
    unites-next c.args.self.half c.args.samples.now c.loop-x.x-index c.loop-x.all c.raised-all.result
    (rw (to_z-of_z {w = w32} (sfits_of c.raised-arg-1.given)) at c.raised-all.ensures) c.loop-x.invariant

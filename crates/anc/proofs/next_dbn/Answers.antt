-- `anc::next_dbn` meets its contract: the demand, then the number after this one. Assumes nothing.
use mathlib.Core.Path.{sym, ap, ◌∙◌}
use borrow.Author.Tests.{le-leb, lt-leb}
use Rattle.answer.specs.Answer.{Answer.accepted}
use Rattle.answer.specs.Demand.{◌&◌}
use Rattle.answer.specs.Demand.Stops.{fails}
use Rattle.answer.proofs.Chains.{passing, stopped}
use Rattle.anc.specs.Dbn.{next_dbn}
use Rattle.anc.proofs.next_dbn.Goals as goal

pub returns-then-dbn-gt255 : goal.returns-then-dbn-gt255
unfolding next_dbn
returns-then-dbn-gt255 c = sym (stopped _ (fails (lt-leb _ 255 c.if-dbn-gt255.true)))

pub returns : goal.returns
unfolding next_dbn
returns c = ap accepted c.after_dbn.ensures ∙ sym (passing _ _ (le-leb _ 255 c.if-dbn-gt255.false & tt))

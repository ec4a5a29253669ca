-- `records::kind_of` meets its contract. Assumes nothing.
use mathlib.Core.Path.{sym}
use borrow.Author.Tests.{lt-leb, le-leb, eq-eqb, ne_eqb}
use Rattle.answer.specs.Demand.{◌&◌}
use Rattle.answer.specs.Demand.Stops.{fails, later}
use Rattle.answer.proofs.Chains.{passing, stopped}
use Rattle.records.specs.Record.{kind_demands, kind_of}
use Rattle.records.proofs.kind_of.Goals as goal

pub returns-then-body-lt2 : goal.returns-then-body-lt2
unfolding kind_of
returns-then-body-lt2 c = sym (stopped _ (fails (lt-leb _ _ c.if-body-lt2.true)))

pub returns-then-body-ne1 : goal.returns-then-body-ne1
unfolding kind_of
returns-then-body-ne1 c = sym (stopped _ (later (le-leb _ _ c.if-body-lt2.false) (fails (ne_eqb _ _ c.if-body-ne1.true))))

pub returns : goal.returns
unfolding kind_of
returns c =
    rw c.from.ensures (sym (passing _ (kind_demands c.args.body.now) (le-leb _ _ c.if-body-lt2.false & eq-eqb _ _ c.if-body-ne1.false & tt)))

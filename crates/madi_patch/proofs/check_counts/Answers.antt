-- `madi_patch::check_counts` meets its contract: each way out is a demand of the definition. Assumes nothing.
use mathlib.Core.Path.{sym, ◌∙◌}
use borrow.Author.Tests.{le-leb, lt-leb}
use Rattle.answer.specs.Answer.{Answer.accepted}
use Rattle.answer.specs.Demand.{◌&◌}
use Rattle.answer.specs.Demand.Stops.{fails, later}
use Rattle.answer.proofs.Chains.{passing, stopped}
use Rattle.madi_patch.specs.Inner.{count_demands}
use Rattle.madi_patch.proofs.check_counts.Goals as goal

pub returns-then-not-is_counted : goal.returns-then-not-is_counted
returns-then-not-is_counted c = sym (stopped (accepted tt) (fails (sym c.is_counted.ensures ∙ c.if-not-is_counted.true)))

pub returns-then-active-lt1 : goal.returns-then-active-lt1
returns-then-active-lt1 c =
    sym (stopped (accepted tt) (later (sym c.is_counted.ensures ∙ c.if-not-is_counted.false) (fails (lt-leb _ _ c.if-active-lt1.true))))

pub returns-then-channels-active : goal.returns-then-channels-active
returns-then-channels-active c =
    sym (stopped (accepted tt) (later (sym c.is_counted.ensures ∙ c.if-not-is_counted.false)
    (later (le-leb _ _ c.if-active-lt1.false) (fails (lt-leb _ _ c.if-channels-active.true)))))

pub returns : goal.returns
returns c =
    sym (passing (accepted tt) (count_demands c.args.channels c.args.active) ((sym c.is_counted.ensures ∙ c.if-not-is_counted.false)
    & le-leb _ _ c.if-active-lt1.false & le-leb _ _ c.if-channels-active.false & tt))

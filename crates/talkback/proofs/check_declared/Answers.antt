-- `talkback::check_declared` meets its contract: each channel before declares the use. Assumes nothing.
use mathlib.Core.Path.{sym, ◌∙◌}
use Rattle.block.proofs.CheckLaws.{hit, miss}
use Rattle.talkback.specs.Talkback.{undeclared}
use Rattle.talkback.specs.Inner.{declared_checked}
use Rattle.talkback.proofs.check_declared.Goals as goal

pub returns-then-is_undeclared : goal.returns-then-is_undeclared
unfolding declared_checked
returns-then-is_undeclared c =
    hit 19 (undeclared c.args.side.now) 2 c.loop-channel.channel c.loop-channel.invariant c.loop-channel-test.true
    (sym c.is_undeclared.ensures ∙ c.if-is_undeclared.true)

pub returns : goal.returns
unfolding declared_checked
returns c = miss 19 (undeclared c.args.side.now) 2 c.loop-channel.channel c.loop-channel.invariant c.loop-channel-test.false

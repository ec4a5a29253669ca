-- `block::by_status::check` meets its contract, kind by kind. Assumes nothing.
use mathlib.Core.Path.{sym}
use Rattle.answer.specs.Answer.{Answer.accepted}
use Rattle.answer.specs.Demand.{◌&◌}
use Rattle.answer.specs.Demand.Stops.{later}
use Rattle.answer.proofs.Chains.{stopped, passing}
use Rattle.block.specs.Check.{consumer, wrong, unmarked, status_demands, status_checked}
use Rattle.block.proofs.CheckLaws.{channel-found, no-channel}
use Rattle.block.proofs.by_status.check.Goals as goal

pub returns-in-Some : goal.returns-in-Some
unfolding status_checked
returns-in-Some c =
    sym (stopped (accepted tt)
    (channel-found (consumer c.args.side.now) c.is_consumer.ensures c.is_consumer-2.ensures c.first_channel.ensures c.in-Some.is))

pub returns-in-Some-first_channel : goal.returns-in-Some-first_channel
unfolding status_checked
returns-in-Some-first_channel c =
    sym (stopped (accepted tt)
    (later (no-channel (consumer c.args.side.now) c.is_consumer.ensures c.is_consumer-2.ensures c.first_channel.ensures c.in_default.is)
    (channel-found (wrong c.args.side.now) c.is_wrong.ensures c.is_wrong-2.ensures c.first_channel-2.ensures c.in-Some-first_channel.is)))

pub returns-in-Some-first_channel-2 : goal.returns-in-Some-first_channel-2
unfolding status_checked
returns-in-Some-first_channel-2 c =
    sym (stopped (accepted tt)
    (later (no-channel (consumer c.args.side.now) c.is_consumer.ensures c.is_consumer-2.ensures c.first_channel.ensures c.in_default.is)
    (later (no-channel (wrong c.args.side.now) c.is_wrong.ensures c.is_wrong-2.ensures c.first_channel-2.ensures c.in_default-first_channel.is)
    (channel-found (unmarked c.args.side.now) c.is_unmarked.ensures c.is_unmarked-2.ensures c.first_channel-3.ensures c.in-Some-first_channel-2.is))))

pub returns : goal.returns
unfolding status_checked
returns c =
    sym (passing (accepted tt) (status_demands c.args.side.now)
    (no-channel (consumer c.args.side.now) c.is_consumer.ensures c.is_consumer-2.ensures c.first_channel.ensures c.in_default.is
    & no-channel (wrong c.args.side.now) c.is_wrong.ensures c.is_wrong-2.ensures c.first_channel-2.ensures c.in_default-first_channel.is
    & no-channel (unmarked c.args.side.now) c.is_unmarked.ensures c.is_unmarked-2.ensures c.first_channel-3.ensures c.in_default-first_channel-2.is
    & tt))

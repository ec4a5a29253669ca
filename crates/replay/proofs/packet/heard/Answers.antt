-- `replay::packet::heard` meets its contract. Assumes nothing.
use mathlib.Core.Path.{sym, ap, ◌∙◌}
use Rattle.answer.specs.Answer.{Answer.accepted}
use Rattle.answer.specs.Said.{said}
use Rattle.replay.specs.Packet.{data_heard}
use Rattle.replay.proofs.packet.heard.Goals as goal

pub returns-in-Err : goal.returns-in-Err
returns-in-Err c = rw c.in-Err.is c.refused.ensures

pub returns-in-Ok-read_packet : goal.returns-in-Ok-read_packet
returns-in-Ok-read_packet c =
    rw c.in-Ok.is
    (ap (data_heard c.args.group (accepted c.in-Ok.lanes)) (ap said (sym c.in-Ok-read_packet.is) ∙ c.read_packet.ensures.result_value))

pub returns-in-Err-read_packet : goal.returns-in-Err-read_packet
returns-in-Err-read_packet c =
    rw c.in-Ok.is
    (c.refused-in-Err-read_packet.ensures
    ∙ ap (data_heard c.args.group (accepted c.in-Ok.lanes)) (ap said (sym c.in-Err-read_packet.is) ∙ c.read_packet.ensures.result_value))

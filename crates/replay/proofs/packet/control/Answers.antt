-- `replay::packet::control` meets its contract. Assumes nothing.
use mathlib.Core.Path.{refl, sym, ap, ◌∙◌}
use lib.ListN.{replicate}
use Rattle.answer.specs.Said.{said}
use Rattle.replay.specs.Packet.{control_heard}
use Rattle.replay.proofs.Entries.{control-short, control-is}
use Rattle.replay.proofs.packet.control.Goals as goal

pub returns-then-octets-ne36 : goal.returns-then-octets-ne36
returns-then-octets-ne36 c = c.refused.ensures ∙ control-short _ c.if-octets-ne36.true

pub returns-in-Ok : goal.returns-in-Ok
returns-in-Ok c =
    ap (λ r. control_heard c.group-group.result (said r)) (sym c.in-Ok.is)
    ∙ control-is _ (replicate 18 0) c.if-octets-ne36.false refl c.fill_words.ensures c.group-group.ensures c.read_control.ensures

pub returns-in-Err : goal.returns-in-Err
returns-in-Err c =
    c.refused-in-Err.ensures ∙ ap (λ r. control_heard c.group-group.result (said r)) (sym c.in-Err.is)
    ∙ control-is _ (replicate 18 0) c.if-octets-ne36.false refl c.fill_words.ensures c.group-group.ensures c.read_control.ensures

-- `hd_read::subframe_at` meets its contract. Assumes nothing.
use mathlib.Core.Path.{sym, ap, ◌∙◌}
use borrow.Author.Tests.{eq-eqb, ne_eqb}
use Rattle.answer.specs.Answer.{Answer.accepted}
use Rattle.answer.specs.Demand.{◌&◌}
use Rattle.answer.specs.Demand.Stops.{fails}
use Rattle.answer.proofs.Chains.{passing, stopped}
use Rattle.subframe.specs.Body.{parity_of}
use Rattle.hd_packet.specs.Packet.{body_at}
use Rattle.hd_packet.proofs.Channels.{body_of}
use Rattle.hd_read.specs.Inner.{subframe_at}
use Rattle.hd_read.proofs.subframe_at.Goals as goal

pub returns-then-parity-ne0 : goal.returns-then-parity-ne0
unfolding subframe_at
returns-then-parity-ne0 c =
    let a = c.args in
    sym (stopped _ (fails (ne_eqb (parity_of (body_at a.octets.now a.k)) 0
    (λ z. c.if-parity-ne0.true (c.parity.ensures ∙ ap parity_of (body_of a.octets.now a.k _ c.from_le_bytes-number.ensures) ∙ z)))))

pub returns : goal.returns
unfolding subframe_at
returns c =
    let a = c.args in
    let e = body_of a.octets.now a.k _ c.from_le_bytes-number.ensures in
    ap accepted e
    ∙ sym (passing _ _ (eq-eqb (parity_of (body_at a.octets.now a.k)) 0 (ap parity_of (sym e) ∙ sym c.parity.ensures ∙ c.if-parity-ne0.false) & tt))

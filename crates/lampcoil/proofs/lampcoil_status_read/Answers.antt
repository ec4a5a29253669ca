-- `lampcoil::lampcoil_status_read` meets its contract: bytes 0 to 2 of 24 octets, or of another number of them what a refusal comes
-- with. Assumes nothing.
use mathlib.Core.Path.{◌∙◌, ap, ap₂}
use borrow.Author.Tests.{eq-eqb, ne_eqb}
use Rattle.answer.specs.Demand.{◌&◌}
use Rattle.answer.specs.Demand.Stops.{fails}
use Rattle.answer.proofs.Chains.{passing, stopped}
use Rattle.status.proofs.Lossless.{nothing-is-consumer}
use Rattle.lampcoil.specs.Status.{meaning_answer}
use Rattle.lampcoil.specs.Told.{meaning_laid}
use Rattle.lampcoil.proofs.lampcoil_status_read.Goals as goal

pub returns-then-status-ne24 : goal.returns-then-status-ne24
unfolding meaning_answer
returns-then-status-ne24 c =
    rw (stopped _ (fails (ne_eqb _ 24 c.if-status-ne24.true)))
    (c.meaning.ensures ∙ ap₂ meaning_laid c.number.ensures (c.meaning_numbers.ensures ∙ nothing-is-consumer))

pub returns : goal.returns
unfolding meaning_answer
returns c =
    rw (passing _ _ (eq-eqb _ 24 c.if-status-ne24.false & tt))
    (c.meaning-2.ensures ∙ ap (meaning_laid 0) c.meaning_numbers-2.ensures)

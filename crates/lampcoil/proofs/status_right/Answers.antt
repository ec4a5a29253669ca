-- `lampcoil::status_right` meets its contract: the length, and what `codes` answers. Assumes nothing.
use mathlib.Core.Path.{◌≡◌, refl, sym, ap, ◌∙◌}
use mathlib.Core.Bool.{Bool, true, false}
use mir.Val.{bool_byte}
use borrow.Author.Tests.{eq-eqb, ne_eqb}
use Rattle.bits.specs.Row.{digit}
use Rattle.answer.specs.Answer.{accepted}
use Rattle.answer.specs.Demand.{◌&◌}
use Rattle.answer.specs.Demand.Stops.{fails}
use Rattle.answer.proofs.Chains.{passing, stopped}
use Rattle.lampcoil.specs.Status.{right_answer}
use Rattle.lampcoil.proofs.status_right.Goals as goal

-- the number that a truth value is cast to
as-digit : (b : Bool) → bool_byte b ≡ digit b
as-digit true = refl
as-digit false = refl

pub returns-then-status-ne24 : goal.returns-then-status-ne24
unfolding right_answer
returns-then-status-ne24 c = sym (stopped _ (fails (ne_eqb _ _ c.if-status-ne24.true)))

pub returns : goal.returns
unfolding right_answer
returns c =
    rw (passing _ _ (eq-eqb _ 24 c.if-status-ne24.false & tt))
    (ap accepted (as-digit c.crcc_right.result ∙ ap digit c.crcc_right.ensures))

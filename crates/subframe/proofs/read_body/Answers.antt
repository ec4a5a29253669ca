-- `subframe::read_body` meets its contract, test by test. Assumes nothing.
use mathlib.Core.Path.{◌≡◌, sym}
use mathlib.Core.Bool.{true, false}
use lib.Dec.{eqb}
use borrow.Author.Rules.{sfits_of}
use borrow.Author.Tests.{eq-eqb, ne_eqb}
use mir.Syntax.{w32}
use mir.Facts.{to_z-of_z}
use Rattle.answer.specs.Answer.{Answer.accepted}
use Rattle.answer.specs.Demand.{◌&◌}
use Rattle.answer.specs.Demand.Stops.{fails, later}
use Rattle.answer.proofs.Chains.{passing, stopped}
use Rattle.subframe.specs.Body.{parity_of, fields_of, read_demands, body_read}
use Rattle.subframe.proofs.read_body.Goals as goal

pub returns-then-body-ne0 : goal.returns-then-body-ne0
unfolding body_read
returns-then-body-ne0 c = sym (stopped _ (fails (ne_eqb _ 0 c.if-body-ne0.true)))

pub returns-then-parity-ne0 : goal.returns-then-parity-ne0
unfolding body_read
returns-then-parity-ne0 c =
    let b = c.args.body in
    let odd : eqb (parity_of b) 0 ≡ false = rw (← c.parity.ensures) (ne_eqb _ 0 c.if-parity-ne0.true) in
    sym (stopped _ (later (eq-eqb _ 0 c.if-body-ne0.false) (fails odd)))

pub returns : goal.returns
unfolding body_read
returns c =
    let b = c.args.body in
    let even : eqb (parity_of b) 0 ≡ true = rw (← c.parity.ensures) (eq-eqb _ 0 c.if-parity-ne0.false) in
    rw (
      passing (accepted (fields_of b)) (read_demands b) (eq-eqb _ 0 c.if-body-ne0.false & even & tt),
      to_z-of_z {w = w32} (sfits_of c.sample_of.type_inv),
      c.sample_of.ensures,
    )

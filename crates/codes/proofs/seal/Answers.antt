-- `codes::seal` meets its contract, by the test on the length.
-- Assumes nothing.
use mathlib.Core.Path.{ap}
use borrow.Author.Tests.{eq-eqb, ne_eqb}
use lib.ListN.{set, length-set}
use Rattle.answer.specs.Demand.{◌&◌}
use Rattle.answer.specs.Demand.Stops.{fails}
use Rattle.answer.proofs.Residues.{shows-refusal, shows-acceptance}
use Rattle.codes.specs.Crcc.{crcc_of, seal_answer}
use Rattle.codes.proofs.seal.Goals as goal

pub returns-then-status-ne24 : goal.returns-then-status-ne24
unfolding seal_answer
returns-then-status-ne24 c =
    let both = shows-refusal _ _ _ _ (fails (ne_eqb _ 24 c.if-status-ne24.true)) in
    record { result_value = both.0; status_after = both.1 }

pub returns : goal.returns
unfolding seal_answer
returns c =
    let s = c.args.status.now in
    let both = shows-acceptance _ _ _ _ _ (eq-eqb _ 24 c.if-status-ne24.false & tt) (length-set s 23 (crcc_of s))
    (ap (set s 23) c.crcc_of.ensures) in
    record { result_value = both.0; status_after = both.1 }

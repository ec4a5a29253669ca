-- `codes::crcc_value` meets its contract, by the test and by what `value` ensures.
-- Assumes nothing.
use mathlib.Core.Path.{sym}
use borrow.Author.Tests.{lt-leb, le-leb}
use Rattle.std.proofs.lemmas.Result.{err_from_is_err_and}
use Rattle.answer.specs.Demand.{◌&◌}
use Rattle.answer.specs.Demand.Stops.{fails}
use Rattle.answer.proofs.Chains.{passing, stopped}
use Rattle.codes.specs.Crcc.{stages_sent}
use Rattle.codes.proofs.crcc_value.Goals as goal

pub returns-in_err-stages : goal.returns-in_err-stages
unfolding stages_sent
returns-in_err-stages c =
    let p = err_from_is_err_and c.from_residual.result c.from_residual.ensures.1 in
    let q = c.in_err-stages.ensures in
    rw (p.1, p.2, q.0) (sym (stopped _ (fails (lt-leb _ 255 q.1))))

pub returns : goal.returns
unfolding stages_sent
returns c =
    simp (c.from.ensures, c.value.ensures, c.in_ok-stages.ensures.0)
    (sym (passing _ _ (le-leb c.args.stages 255 c.in_ok-stages.ensures.1 & tt)))

-- `block::check_block` meets its contract: lengths, and then kind by kind. Assumes nothing.
use mathlib.Core.Path.{◌≡◌, sym, ap, ◌∙◌}
use borrow.Author.Tests.{eq-eqb, ne_eqb}
use lib.ListN.{length}
use Rattle.answer.specs.Answer.{Answer.accepted}
use Rattle.answer.specs.Demand.Stops.{fails, later}
use Rattle.answer.proofs.Chains.{stopped}
use Rattle.std.proofs.lemmas.Result.{err_from_is_err_and}
use Rattle.block.specs.Side.{side_length}
use Rattle.block.specs.Check.{checked}
use Rattle.block.proofs.CheckLaws.{at-faults, at-range, all-in-range, at-status, at-lengths}
use Rattle.block.proofs.check_block.Goals.{In-Some-as_array}
use Rattle.block.proofs.check_block.Goals as goal

-- the arrays are the slices
module _ (c : In-Some-as_array) where
  same-samples : c.in-Some.samples.now ≡ c.args.samples.now
  same-samples = c.in-Some.ensures.cases.same

  same-side : c.in-Some-as_array.side.now ≡ c.args.side.now
  same-side = c.in-Some-as_array.ensures.cases.same

  ns : length c.in-Some.samples.now ≡ 384
  ns = ap length same-samples ∙ c.in-Some.ensures.cases.long

  nt : length c.in-Some-as_array.side.now ≡ side_length
  nt = ap length same-side ∙ c.in-Some-as_array.ensures.cases.long

pub returns-in_default : goal.returns-in_default
unfolding checked
returns-in_default c = sym (stopped (accepted tt) (fails (ne_eqb _ 384 c.in_default.ensures.cases)))

pub returns-in_default-as_array : goal.returns-in_default-as_array
unfolding checked
returns-in_default-as_array c =
    sym (stopped (accepted tt) (later (eq-eqb _ 384 c.in-Some.ensures.cases.long) (fails (ne_eqb _ side_length c.in_default-as_array.ensures.cases))))

pub returns-in_err-check : goal.returns-in_err-check
returns-in_err-check c =
    let p = (goal.at.returns-in_err-check c).In-Some-as_array in
    let r = err_from_is_err_and c.from_residual.result c.from_residual.ensures.1 in
    rw (r.1, r.2, ← same-samples p, ← same-side p) (at-faults _ _ (ns p) (nt p) _ c.in_err-check.ensures)

pub returns-in_err-check-2 : goal.returns-in_err-check-2
returns-in_err-check-2 c =
    let p = (goal.at.returns-in_err-check-2 c).In-Some-as_array in
    let r = err_from_is_err_and c.from_residual-in_err-check-2.result c.from_residual-in_err-check-2.ensures.1 in
    rw (r.1, r.2, ← same-samples p, ← same-side p) (at-range _ _ (ns p) (nt p) c.in_ok-check.ensures _ c.in_err-check-2.ensures)

pub returns-in_err-check-3 : goal.returns-in_err-check-3
returns-in_err-check-3 c =
    let p = (goal.at.returns-in_err-check-3 c).In-Some-as_array in
    let r = err_from_is_err_and c.from_residual-in_err-check-3.result c.from_residual-in_err-check-3.ensures.1 in
    rw (r.1, r.2, ← same-samples p, ← same-side p)
    (at-status _ _ (ns p) (nt p) c.in_ok-check.ensures c.in_ok-check-2.ensures _ c.in_err-check-3.ensures)

pub check-requires-4 : goal.check-requires-4
check-requires-4 c =
    let p = (goal.at.check-requires-4 c).In-Some-as_array in
    (all-in-range _ _ (ns p) (nt p) c.in_ok-check.ensures c.in_ok-check-2.ensures, c.gather-all.ensures)

pub returns : goal.returns
returns c =
    let p = (goal.at.returns c).In-Some-as_array in
    rw (← same-samples p, ← same-side p)
    (at-lengths _ _ (ns p) (nt p) c.in_ok-check.ensures c.in_ok-check-2.ensures _ c.in_ok-check-3.ensures c.check-4.ensures)

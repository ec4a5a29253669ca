-- `trial_report::run` meets its contract. Assumes nothing.
use native.Mathlib.Omega.{arith}
use Rattle.report.specs.Text.{heading}
use Rattle.report.proofs.Lengths.{starts, heading-size}
use Rattle.report.proofs.Written.{step-starts, step-size}
use Rattle.report.proofs.Whole.{step_counts}
use borrow.Author.Rules.{rules}
use Rattle.trial_report.proofs.run.Goals as goal

pub slice_bounds-write_all-count : goal.slice_bounds-write_all-count
slice_bounds-write_all-count c = omega (arith, c.begin-start.ensures.value, starts 128 heading)

pub slice_bounds-write_all-start : goal.slice_bounds-write_all-start
slice_bounds-write_all-start c = omega (arith, c.begin-start.ensures.value, starts 128 heading)

pub slice_bounds-write_all-end : goal.slice_bounds-write_all-end
slice_bounds-write_all-end c = omega (arith, heading-size _ (search rules) c.begin-start.ensures.out_after)

pub loop-out-init : goal.loop-out-init
loop-out-init c = (heading-size _ (search rules) c.begin-start.ensures.out_after, search rules, search rules)

pub slice_bounds-write_all-count-in-loop-out : goal.slice_bounds-write_all-count-in-loop-out
slice_bounds-write_all-count-in-loop-out c = step-starts _ c.print-step.ensures.value

pub slice_bounds-write_all-start-in-loop-out : goal.slice_bounds-write_all-start-in-loop-out
slice_bounds-write_all-start-in-loop-out c = step-starts _ c.print-step.ensures.value

pub slice_bounds-write_all-end-in-loop-out : goal.slice_bounds-write_all-end-in-loop-out
slice_bounds-write_all-end-in-loop-out c =
    let l = c.loop-out in
    omega (arith, step-size l.out l.invariant.0 _ _ _ c.print-step.ensures.out_after)

pub loop-out-smaller : goal.loop-out-smaller
loop-out-smaller c =
    omega (arith, step_counts _ _ _ c.print-step.ensures.value c.if-step.false)

pub loop-out-preserved : goal.loop-out-preserved
loop-out-preserved c =
    let l = c.loop-out in
    (step-size l.out l.invariant.0 _ _ _ c.print-step.ensures.out_after, search rules, search rules)

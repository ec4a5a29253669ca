-- `replay::run` meets its contract. Assumes nothing.
use mathlib.Core.Path.{sym}
use native.Mathlib.Omega.{arith}
use lib.Seq.{length-take-le}
use Rattle.replay.proofs.Walk.{not-going, ahead-first, ahead-on, ahead-ends}
use Rattle.replay.proofs.run.Goals as goal

pub loop-at-init : goal.loop-at-init
loop-at-init c = (omega arith, ahead-first _ _)

pub slice_bounds-body_size-end : goal.slice_bounds-body_size-end
slice_bounds-body_size-end c = sym (length-take-le _ _ (omega arith))

pub slice_bounds-step-end : goal.slice_bounds-step-end
slice_bounds-step-end c = sym (length-take-le _ _ (omega arith))

pub loop-at-smaller : goal.loop-at-smaller
loop-at-smaller c =
    let a = c.args in
    let o = ahead-on a.octets.now a.figures.now c.loop-at.figures c.loop-at.invariant.0 c.min-got.ensures c.body_size-size.ensures c.min-had.ensures c.step-next.ensures.value c.step-next.ensures.sheet_after c.loop-at.invariant.1 c.in-Going.is in
    omega (arith, o.1, o.2)

pub loop-at-preserved : goal.loop-at-preserved
loop-at-preserved c =
    let a = c.args in
    let o = ahead-on a.octets.now a.figures.now c.loop-at.figures c.loop-at.invariant.0 c.min-got.ensures c.body_size-size.ensures c.min-had.ensures c.step-next.ensures.value c.step-next.ensures.sheet_after c.loop-at.invariant.1 c.in-Going.is in
    (o.2, o.0)

pub returns-in_default : goal.returns-in_default
returns-in_default c =
    let a = c.args in
    let o = ahead-ends a.octets.now a.figures.now c.loop-at.figures c.loop-at.invariant.0 c.min-got.ensures c.body_size-size.ensures c.min-had.ensures c.step-next.ensures.value c.step-next.ensures.sheet_after c.loop-at.invariant.1 (not-going _ c.in_default.not-Going) in
    record { taken_value = (o.0, o.1); figures_after = o.2 }

-- `block::one_pass::gather` meets its contract: each pair goes to what was gathered before it. Assumes nothing.
use mathlib.Core.Path.{◌≡◌}
use native.Mathlib.Omega.{arith}
use borrow.Author.Rules.{sfits_of}
use mir.Syntax.{w32}
use mir.Facts.{to_z-of_z}
use Rattle.block.proofs.Lifting.{gathers-next}
use Rattle.block.proofs.one_pass.gather.Goals as goal

pub loop-k-preserved : goal.loop-k-preserved
loop-k-preserved c =
    gathers-next c.args.samples.now c.loop-k.k c.loop-k.sum c.from-low.result c.from-high.result
    (rw (← c.from-low.ensures, to_z-of_z {w = w32} (sfits_of c.lifted-arg-1.given)) at c.lifted.ensures)
    (rw (← c.from-high.ensures, to_z-of_z {w = w32} (sfits_of c.lifted-arg-in-loop-k-1.given)) at c.lifted-in-loop-k.ensures) c.loop-k.invariant

pub returns : goal.returns
returns c =
    let e : c.loop-k.k ≡ 192 = omega arith in
    rw e at c.loop-k.invariant

-- `block::from_bodies::fill_samples` meets its contract: after i turns the first i samples are those of the bodies. Assumes nothing.
use mathlib.Core.Path.{sym, ap₂, ◌∙◌}
use mathlib.Core.List.{List}
use native.Mathlib.Omega.{arith}
use borrow.Author.Rules.{sfits_of}
use lib.IntN.{ℤ, pos}
use lib.ListN.{set}
use mir.Syntax.{w32}
use mir.Facts.{to_z-of_z}
use Rattle.bits.proofs.Filling.{over-next, over-all}
use Rattle.block.specs.Block.{samples_of}
use Rattle.block.proofs.BlockLaws.{length-samples, get_or-samples}
use Rattle.block.proofs.from_bodies.fill_samples.Goals as goal

pub loop-i-preserved : goal.loop-i-preserved
loop-i-preserved c =
    let bodies = c.args.bodies.now in
    let old = c.args.samples.now in
    let i = c.loop-i.i in
    ap₂ (λ (l : List ℤ) (y : ℤ). set l i y) c.loop-i.invariant
    (to_z-of_z {w = w32} (sfits_of c.sample_of.type_inv) ∙ c.sample_of.ensures ∙ sym (get_or-samples bodies i (omega arith)))
    ∙ over-next i (samples_of bodies) old (pos 0) (omega (arith, length-samples bodies)) (omega arith)

pub returns : goal.returns
returns c =
    let bodies = c.args.bodies.now in
    c.loop-i.invariant
    ∙ over-all c.loop-i.i (samples_of bodies) c.args.samples.now (omega (arith, length-samples bodies)) (omega (arith, length-samples bodies))

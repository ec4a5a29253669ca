-- `block::from_bodies::fill_samples` meets its contract: after i turns the first i samples are those of the bodies. Assumes nothing.
use mathlib.Core.Path.{◌≡◌}
use Rattle.bits.proofs.Filling.{over}
use Rattle.block.specs.Block.{samples_of}
use Rattle.block.proofs.from_bodies.fill_samples.Given as goal

abbrev pub invariant-loop-i : goal.invariant-loop-i
invariant-loop-i l = l.samples ≡ over l.i (samples_of l.bodies) l.initial.samples

-- `block::under_mask::check` meets its contract: no sample before i has a 1 under its mask. Assumes nothing.
use mathlib.Core.Path.{◌≡◌}
use mathlib.Core.Bool.{false}
use Prim.Native.Nat.{ℕ, ◌<◌}
use Rattle.block.specs.Inner.{masked}
use Rattle.block.proofs.under_mask.check.Given as goal

abbrev pub invariant-loop-i : goal.invariant-loop-i
invariant-loop-i l = (k : ℕ) → k < l.i → masked l.samples l.masks.a l.masks.b k ≡ false

-- `block::one_pass::check` meets its contract: no sample before i is out of range. Assumes nothing.
use mathlib.Core.Path.{◌≡◌}
use mathlib.Core.Bool.{false}
use Prim.Native.Nat.{ℕ, ◌<◌}
use Rattle.block.specs.Check.{outside}
use Rattle.block.proofs.one_pass.check.Given as goal

abbrev pub invariant-loop-i : goal.invariant-loop-i
invariant-loop-i l = (k : ℕ) → k < l.i → outside l.samples k ≡ false

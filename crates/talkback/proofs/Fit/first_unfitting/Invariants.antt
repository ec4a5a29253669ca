-- `talkback::Fit::first_unfitting` meets its contract: each sample before i fits. Assumes nothing.
use mathlib.Core.Path.{◌≡◌}
use mathlib.Core.Bool.{false}
use Prim.Native.Nat.{ℕ, ◌<◌}
use Rattle.talkback.specs.Inner.{unfitting}
use Rattle.talkback.proofs.Fit.first_unfitting.Given as goal

abbrev pub invariant-loop-i : goal.invariant-loop-i
invariant-loop-i l = (k : ℕ) → k < l.i → unfitting l.self.half l.self.free l.samples k ≡ false

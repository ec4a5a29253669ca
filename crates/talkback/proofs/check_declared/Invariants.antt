-- `talkback::check_declared` meets its contract: each channel before declares the use. Assumes nothing.
use mathlib.Core.Path.{◌≡◌}
use mathlib.Core.Bool.{false}
use Prim.Native.Nat.{ℕ, ◌<◌}
use Rattle.talkback.specs.Talkback.{undeclared}
use Rattle.talkback.proofs.check_declared.Given as goal

abbrev pub invariant-loop-channel : goal.invariant-loop-channel
invariant-loop-channel l = (k : ℕ) → k < l.channel → undeclared l.side k ≡ false

-- `madi_write::commands_number` meets its contract: one command more with each turn. Assumes nothing.
use mathlib.Core.Path.{◌≡◌}
use Prim.Native.Nat.{◌≤◌}
use lib.ListN.{length}
use Rattle.madi_write.specs.Inner.{commands_number}
use Rattle.madi_write.proofs.commands_number.Given as goal

abbrev pub invariant-loop-c : goal.invariant-loop-c
invariant-loop-c l = (l.c-index ≤ length l.commands) × (l.x ≡ commands_number l.commands 0 l.c-index)

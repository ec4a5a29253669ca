-- `madi_code::groups` meets its contract: one entry more is right with each turn, by the four bits turned and the
-- document's table. Assumes nothing.
use mathlib.Core.Path.{◌≡◌}
use Prim.Native.Nat.{ℕ, ◌≤◌, ◌<◌}
use lib.ListN.{length, get_or}
use Rattle.bits.specs.Row.{bits, big}
use Rattle.madi_code.specs.Groups.{group_code}
use Rattle.madi_code.proofs.groups.Given as goal

abbrev pub invariant-loop-x : goal.invariant-loop-x
invariant-loop-x l = (l.x ≤ 16) × (length l.table ≡ 16) × ((k : ℕ) → k < l.x → get_or l.table k 0 ≡ group_code (big (bits 4 k)))

-- `codes::failing_lane` meets its contract: what is left of the search is the whole search. Assumes nothing.
use mathlib.Core.Path.{◌≡◌}
use mathlib.Core.List.{List}
use Prim.Native.Nat.{ℕ, ◌-◌}
use Rattle.std.specs.Prelude.{Option, Some, None}
use Rattle.bits.specs.Pick.{first}
use Rattle.codes.specs.Lanes.{failing}
use Rattle.codes.proofs.failing_lane.Given as goal

-- the search from lane i on
abbrev pub left : List ℕ → ℕ → Option ℕ
left os i = first (failing os) i (8 - i) (λ k. Some k) None

abbrev pub invariant-loop-i : goal.invariant-loop-i
invariant-loop-i l = left l.octets l.i ≡ left l.octets 0

-- `report::put_refusals` meets its contract. Assumes nothing.
use mathlib.Core.Path.{◌≡◌}
use Prim.Native.Nat.{◌+◌, ◌-◌, ◌*◌, ◌≤◌}
use lib.ListN.{length}
use Rattle.report.proofs.NightLaws.{PutFrom}
use Rattle.report.proofs.put_refusals.Given as goal

abbrev pub invariant-loop-n : goal.invariant-loop-n
invariant-loop-n l = (l.n ≤ 18) × (length l.out ≡ length l.initial.out) × (l.at ≤ l.end) × (l.end ≤ l.at + 77 * (18 - l.n)) × PutFrom l.figures l.group l.initial.out l.end l.n l.at l.out

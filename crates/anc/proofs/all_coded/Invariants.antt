-- `anc::all_coded` meets its contract: what is gathered is 0 exactly if each word passed is coded. Assumes nothing.
use mathlib.Core.Path.{◌≡◌}
use mathlib.Core.Bool.{◌&&◌}
use Prim.Native.Nat.{◌≤◌}
use lib.Dec.{eqb}
use lib.ListN.{length, drop}
use Rattle.anc.specs.Inner.{all_coded}
use Rattle.anc.proofs.all_coded.Given as goal

abbrev pub invariant-loop-w : goal.invariant-loop-w
invariant-loop-w l = (l.w-index ≤ length l.words) × ((eqb l.sum 0 && all_coded (drop l.w-index l.words)) ≡ all_coded l.words)

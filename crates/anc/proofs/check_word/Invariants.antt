-- `anc::check_word` meets its contract: the sum so far and what is still to be added make the whole sum. Assumes nothing.
use mathlib.Core.Path.{◌≡◌}
use Prim.Native.Nat.{◌+◌, ◌%◌, ◌^◌, ◌≤◌, ◌<◌}
use lib.ListN.{length, drop}
use Rattle.anc.specs.Word.{sum_of}
use Rattle.anc.proofs.check_word.Given as goal

abbrev pub invariant-loop-w : goal.invariant-loop-w
invariant-loop-w l = (l.w-index ≤ length l.words) × (l.sum < 2 ^ 9) × ((l.sum + sum_of (drop l.w-index l.words)) % 2 ^ 9 ≡ sum_of l.words % 2 ^ 9)

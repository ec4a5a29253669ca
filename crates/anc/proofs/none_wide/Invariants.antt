-- `anc::none_wide` meets its contract: what is gathered is 0 only if no word passed is above 1,023. Assumes nothing.
use lib.ListN.{length}
use Rattle.bits.proofs.Searches.{Clear}
use Rattle.anc.specs.Word.{wide_at}
use Rattle.anc.proofs.none_wide.Given as goal

abbrev pub invariant-loop-w : goal.invariant-loop-w
invariant-loop-w l = Clear (wide_at l.words) (length l.words) l.above l.w-index

-- `madi_patch::Lent::fill` meets its contract: after o turns the first o verdicts and words are those of the patch.
-- Assumes nothing.
use Rattle.madi_patch.specs.Slot.{slot_octet, slot_word}
use Rattle.madi_patch.specs.Inner.{lent}
use Rattle.madi_patch.proofs.Listing.{Listing}
use Rattle.madi_patch.proofs.Lent.fill.Given as goal

abbrev pub invariant-loop-o : goal.invariant-loop-o
invariant-loop-o l = Listing (slot_word (lent l.self)) l.channels l.initial.out l.out l.o
    × Listing (slot_octet (lent l.self)) l.channels l.initial.verdicts l.verdicts l.o

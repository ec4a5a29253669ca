-- `codes::mend_by` meets its contract: before lane i the lanes are mended, and none of them is refused.
-- Assumes nothing.
use mathlib.Core.Path.{◌≡◌}
use Rattle.codes.specs.Lanes.{mended_octets, lanes_apart}
use Rattle.codes.specs.Inner.{mended_to}
use Rattle.codes.proofs.MendLaws.{Passed}
use Rattle.codes.proofs.mend_by.Given as goal

abbrev pub invariant-loop-i : goal.invariant-loop-i
invariant-loop-i l = record {
  octets-mended : l.octets ≡ mended_to l.i l.initial.octets;
  counted : l.n ≡ lanes_apart l.i (mended_octets l.initial.octets) l.initial.octets;
  none-refused : Passed l.initial.octets l.i;
}

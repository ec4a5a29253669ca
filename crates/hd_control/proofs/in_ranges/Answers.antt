-- `hd_control::in_ranges` meets its contract, test by test. Assumes nothing.
use Rattle.std.proofs.Common.{arith}
use Rattle.std.proofs.lemmas.Grind.{common_steps}
use Rattle.hd_control.specs.Write.{control_in_ranges}
use Rattle.hd_control.proofs.in_ranges.Goals as goal

pub returns-then-delay_fits : goal.returns-then-delay_fits
unfolding control_in_ranges
returns-then-delay_fits c = grind (arith, common_steps)

pub returns-else-delay_fits : goal.returns-else-delay_fits
unfolding control_in_ranges
returns-else-delay_fits c = grind (arith, common_steps)

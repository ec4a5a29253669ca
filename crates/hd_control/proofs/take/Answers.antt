-- `hd_control::take` meets its contract: field by field. Assumes nothing.
use native.Mathlib.Omega.{arith}
use Rattle.std.proofs.Common.{rules}
use Rattle.hd_control.specs.Control.{control_in}
use Rattle.hd_control.proofs.ControlLaws.{delay-lt}
use Rattle.hd_control.proofs.take.Goals as goal

pub signed-requires : goal.signed-requires
signed-requires c = omega (arith, delay-lt c.args.words.now 9, c.delay_at-first.ensures)

pub signed-requires-2 : goal.signed-requires-2
signed-requires-2 c = omega (arith, delay-lt c.args.words.now 12, c.delay_at-second.ensures)

pub returns : goal.returns
unfolding control_in
returns c = search rules

-- `hd_control::delay_at` meets its contract. Assumes nothing.
use Rattle.std.proofs.Common.{rules}
use Rattle.hd_control.specs.Control.{delay_at}
use Rattle.hd_control.proofs.delay_at.Goals as goal

pub returns : goal.returns
unfolding delay_at
returns c = search rules

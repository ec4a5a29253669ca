-- `madi_write::octets_needed` meets its contract: the code is the definition. Assumes nothing.
use native.Mathlib.Omega.{arith}
use Rattle.madi_write.proofs.octets_needed.Goals as goal

pub returns : goal.returns
returns c = omega (arith, c.div_ceil.ensures)

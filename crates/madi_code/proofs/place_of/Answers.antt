-- `madi_code::place_of` meets its contract. Assumes nothing.
use mathlib.Core.Path.{refl}
use native.Mathlib.Omega.{arith}
use Rattle.madi_code.specs.Inner.{place_in}
use Rattle.madi_code.proofs.place_of.Goals as goal

pub returns : goal.returns
unfolding place_in
returns c = (refl, omega arith)

-- `madi_read::nothing_read` meets its contract: the lists are zeros. Assumes nothing.
use mathlib.Core.Path.{refl}
use Rattle.madi_read.specs.Reader.{list_of}
use Rattle.madi_read.proofs.nothing_read.Goals as goal

pub returns : goal.returns
unfolding list_of
returns c = (refl, refl, (refl, refl))

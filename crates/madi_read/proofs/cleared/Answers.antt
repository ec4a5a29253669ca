-- `madi_read::cleared` meets its contract: the code is the definition. Assumes nothing.
use mathlib.Core.Path.{refl}
use Rattle.madi_read.proofs.cleared.Goals as goal

pub returns : goal.returns
returns c = refl

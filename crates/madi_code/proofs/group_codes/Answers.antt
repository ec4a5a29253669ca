-- `madi_code::group_codes` meets its contract: the table is the document's. Assumes nothing.
use mathlib.Core.Path.{refl}
use Rattle.madi_code.specs.Groups.{group_codes}
use Rattle.madi_code.proofs.group_codes.Goals as goal

pub returns : goal.returns
unfolding group_codes
returns c = refl

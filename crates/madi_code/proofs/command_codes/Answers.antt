-- `madi_code::command_codes` meets its contract: the table is the document's. Assumes nothing.
use mathlib.Core.Path.{refl}
use Rattle.madi_code.specs.Groups.{command_codes}
use Rattle.madi_code.proofs.command_codes.Goals as goal

pub returns : goal.returns
unfolding command_codes
returns c = refl

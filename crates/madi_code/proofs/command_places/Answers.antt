-- `madi_code::command_places` meets its contract. Assumes nothing.
use mathlib.Core.Path.{refl}
use Rattle.madi_code.specs.Inner.{placed_commands}
use Rattle.madi_code.proofs.command_places.Goals as goal

pub returns : goal.returns
unfolding placed_commands
returns c = refl

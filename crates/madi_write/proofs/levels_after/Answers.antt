-- `madi_write::levels_after` meets its contract: doubling undoes moving by one. Assumes nothing.
use Rattle.madi_write.proofs.Blocks.{levels-undone}
use Rattle.madi_write.proofs.levels_after.Goals as goal

pub returns : goal.returns
returns c = levels-undone c.args.x

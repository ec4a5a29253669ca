-- `aes3_write::sixteen` meets its contract: the flags of A and those of B beside them. Assumes nothing.
use Rattle.aes3_write.proofs.Flags.{sixteen-laid}
use Rattle.aes3_write.proofs.sixteen.Goals as goal

pub returns : goal.returns
returns c =
    sixteen-laid c.args.side.now c.args.j c.requires c.eight_flags-a.result c.eight_flags-b.result
    c.eight_flags-a.ensures.0 c.eight_flags-b.ensures.0

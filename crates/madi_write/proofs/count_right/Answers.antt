-- `madi_write::count_right` meets its contract: the tests are the definition's. Assumes nothing.
use Rattle.madi_write.proofs.Checks.{le-leb-is}
use Rattle.madi_write.proofs.count_right.Goals as goal

pub returns : goal.returns
returns c =
    rw (c.contains.ensures.value, c.new.ensures.start, c.new.ensures.end, c.new.ensures.exhausted, le-leb-is 1 c.args.n, le-leb-is c.args.n 255)

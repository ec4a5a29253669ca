-- `status::numbers_by` meets its contract, field by field. Assumes nothing.
use Rattle.std.proofs.Common.{rules}
use Rattle.status.specs.Numbers.{numbers_by}
use Rattle.status.proofs.numbers_by.Goals as goal

pub returns : goal.returns
unfolding numbers_by
returns c = search rules

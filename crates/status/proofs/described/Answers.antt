-- `status::described` meets its contract, field by field. Assumes nothing.
use Rattle.std.proofs.Common.{rules}
use Rattle.status.specs.Meaning.{described_by}
use Rattle.status.proofs.described.Goals as goal

pub returns : goal.returns
unfolding described_by
returns c = search rules

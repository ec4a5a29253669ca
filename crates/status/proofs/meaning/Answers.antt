-- `status::meaning` meets its contract, by the two tests. Assumes nothing.
use Rattle.std.proofs.Common.{rules}
use Rattle.status.specs.Meaning.{meaning_of}
use Rattle.status.proofs.meaning.Goals as goal

pub returns-then-byte0-eq0 : goal.returns-then-byte0-eq0
unfolding meaning_of
returns-then-byte0-eq0 c = search rules

pub returns-then-byte0-eq0-2 : goal.returns-then-byte0-eq0-2
unfolding meaning_of
returns-then-byte0-eq0-2 c = search rules

pub returns-else-byte0-eq0-2 : goal.returns-else-byte0-eq0-2
unfolding meaning_of
returns-else-byte0-eq0-2 c = search rules

-- `status::tables::EmphasisFromU8::from` meets its contract: the rows of its table, and the rest. Assumes nothing.
use Rattle.std.proofs.Common.{rules}
use Rattle.status.specs.Meaning.{in_table, emphasis_of}
use Rattle.status.proofs.tables.EmphasisFromU8.from.Goals as goal

pub returns-in-0 : goal.returns-in-0
unfolding in_table emphasis_of
returns-in-0 c = search rules

pub returns-in-1 : goal.returns-in-1
unfolding in_table emphasis_of
returns-in-1 c = search rules

pub returns-in-3 : goal.returns-in-3
unfolding in_table emphasis_of
returns-in-3 c = search rules

pub returns-in-7 : goal.returns-in-7
unfolding in_table emphasis_of
returns-in-7 c = search rules

pub returns-in_default : goal.returns-in_default
unfolding in_table emphasis_of
returns-in_default c = search rules

-- `status::tables::AuxiliaryFromU8::from` meets its contract: the rows of its table, and the rest. Assumes nothing.
use Rattle.std.proofs.Common.{rules}
use Rattle.status.specs.Meaning.{in_table, auxiliary_of}
use Rattle.status.proofs.tables.AuxiliaryFromU8.from.Goals as goal

pub returns-in-0 : goal.returns-in-0
unfolding in_table auxiliary_of
returns-in-0 c = search rules

pub returns-in-4 : goal.returns-in-4
unfolding in_table auxiliary_of
returns-in-4 c = search rules

pub returns-in-2 : goal.returns-in-2
unfolding in_table auxiliary_of
returns-in-2 c = search rules

pub returns-in-6 : goal.returns-in-6
unfolding in_table auxiliary_of
returns-in-6 c = search rules

pub returns-in_default : goal.returns-in_default
unfolding in_table auxiliary_of
returns-in_default c = search rules

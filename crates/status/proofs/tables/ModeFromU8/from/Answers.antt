-- `status::tables::ModeFromU8::from` meets its contract: the rows of its table, and the rest. Assumes nothing.
use Rattle.std.proofs.Common.{rules}
use Rattle.status.specs.Meaning.{in_table, mode_of}
use Rattle.status.proofs.tables.ModeFromU8.from.Goals as goal

pub returns-in-0 : goal.returns-in-0
unfolding in_table mode_of
returns-in-0 c = search rules

pub returns-in-8 : goal.returns-in-8
unfolding in_table mode_of
returns-in-8 c = search rules

pub returns-in-4 : goal.returns-in-4
unfolding in_table mode_of
returns-in-4 c = search rules

pub returns-in-12 : goal.returns-in-12
unfolding in_table mode_of
returns-in-12 c = search rules

pub returns-in-2 : goal.returns-in-2
unfolding in_table mode_of
returns-in-2 c = search rules

pub returns-in-10 : goal.returns-in-10
unfolding in_table mode_of
returns-in-10 c = search rules

pub returns-in-6 : goal.returns-in-6
unfolding in_table mode_of
returns-in-6 c = search rules

pub returns-in-14 : goal.returns-in-14
unfolding in_table mode_of
returns-in-14 c = search rules

pub returns-in-1 : goal.returns-in-1
unfolding in_table mode_of
returns-in-1 c = search rules

pub returns-in-9 : goal.returns-in-9
unfolding in_table mode_of
returns-in-9 c = search rules

pub returns-in-15 : goal.returns-in-15
unfolding in_table mode_of
returns-in-15 c = search rules

pub returns-in_default : goal.returns-in_default
unfolding in_table mode_of
returns-in_default c = search rules

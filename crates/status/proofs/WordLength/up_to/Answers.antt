-- `status::WordLength::up_to` meets its contract: the rows of both tables, and the rest. Assumes nothing.
use Rattle.std.proofs.Common.{rules}
use Rattle.status.specs.Meaning.{in_table, word_length_up_to24, word_length_up_to20}
use Rattle.status.proofs.WordLength.up_to.Goals as goal

pub returns-in-0 : goal.returns-in-0
unfolding in_table word_length_up_to24 word_length_up_to20
returns-in-0 c = search rules

pub returns-in-4 : goal.returns-in-4
unfolding in_table word_length_up_to24 word_length_up_to20
returns-in-4 c = search rules

pub returns-in-2 : goal.returns-in-2
unfolding in_table word_length_up_to24 word_length_up_to20
returns-in-2 c = search rules

pub returns-in-6 : goal.returns-in-6
unfolding in_table word_length_up_to24 word_length_up_to20
returns-in-6 c = search rules

pub returns-in-1 : goal.returns-in-1
unfolding in_table word_length_up_to24 word_length_up_to20
returns-in-1 c = search rules

pub returns-in-5 : goal.returns-in-5
unfolding in_table word_length_up_to24 word_length_up_to20
returns-in-5 c = search rules

pub returns-in_default : goal.returns-in_default
unfolding in_table word_length_up_to24 word_length_up_to20
returns-in_default c = search rules

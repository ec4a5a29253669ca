-- `codes::sent_table` meets its contract, by the table's rule.
-- Assumes nothing.
use Rattle.codes.proofs.CrccTable.{sent_as, sent-table}
use Rattle.codes.proofs.sent_table.Goals as goal

pub returns : goal.returns
unfolding sent_as
returns c = sent-table

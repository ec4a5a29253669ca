-- `codes::crcc_right` meets its contract: 24 octets, of which the last is the CRCC of the others. Assumes nothing.
use borrow.Author.Rules.{rules}
use Rattle.codes.specs.Crcc.{crcc_right}
use Rattle.codes.proofs.crcc_right.Goals as goal

pub returns-then-status-eq24 : goal.returns-then-status-eq24
unfolding crcc_right
returns-then-status-eq24 c = search rules

pub returns-else-status-eq24 : goal.returns-else-status-eq24
unfolding crcc_right
returns-else-status-eq24 c = search rules

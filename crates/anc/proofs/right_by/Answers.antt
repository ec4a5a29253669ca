-- `anc::right_by` meets its contract, rule by rule. Assumes nothing.
use borrow.Author.Tests.{eq-eqb, ne_eqb}
use Rattle.anc.specs.Word.{right_by}
use Rattle.anc.proofs.right_by.Goals as goal

pub returns-in-Parity : goal.returns-in-Parity
unfolding right_by
returns-in-Parity c = rw c.in-Parity.is c.word_right.ensures

pub returns-in-Value : goal.returns-in-Value
unfolding right_by
returns-in-Value c = rw c.in-Value.is

pub returns-then-w-eq0 : goal.returns-then-w-eq0
unfolding right_by
returns-then-w-eq0 c = rw (c.in-Zero.is, eq-eqb _ _ c.if-w-eq0.true)

pub returns-else-w-eq0 : goal.returns-else-w-eq0
unfolding right_by
returns-else-w-eq0 c = rw (c.in-Zero.is, ne_eqb _ _ c.if-w-eq0.false)

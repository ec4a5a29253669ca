-- `block::by_status::is_unmarked` meets its contract. Assumes nothing.
use borrow.Author.Tests.{eq-eqb, ne_eqb}
use Rattle.block.specs.Check.{unmarked}
use Rattle.block.proofs.by_status.is_unmarked.Goals as goal

pub returns-then-status_byte-eq1 : goal.returns-then-status_byte-eq1
unfolding unmarked
returns-then-status_byte-eq1 c = rw (← c.status_byte.ensures, eq-eqb _ _ c.if-status_byte-eq1.true) c.has_valid.ensures

pub returns-else-status_byte-eq1 : goal.returns-else-status_byte-eq1
unfolding unmarked
returns-else-status_byte-eq1 c = rw (← c.status_byte.ensures, ne_eqb _ _ c.if-status_byte-eq1.false)

-- `madi_write::sent_word` meets its contract: the test is the definition's. Assumes nothing.
use native.Mathlib.Omega.{arith}
use borrow.Author.Tests.{eq-eqb, ne_eqb}
use Rattle.madi_write.proofs.sent_word.Goals as goal

pub overflow_add-result : goal.overflow_add-result
overflow_add-result c = record { fits = omega (arith, c.ranges.w.fits) }

pub returns-then-b-eq0 : goal.returns-then-b-eq0
returns-then-b-eq0 c = rw (eq-eqb _ _ c.if-b-eq0.true)

pub overflow_add-result-else-b-eq0 : goal.overflow_add-result-else-b-eq0
overflow_add-result-else-b-eq0 c = record { fits = omega (arith, c.ranges.w.fits) }

pub returns-else-b-eq0 : goal.returns-else-b-eq0
returns-else-b-eq0 c = rw (ne_eqb _ _ c.if-b-eq0.false)

-- `aes3_line::due_octet` meets its contract: the tests pick the preamble. Assumes nothing.
use borrow.Author.Tests.{ne_eqb}
use Rattle.bits.specs.Row.{big_bits, big}
use Rattle.aes3_line.specs.Subframe.{due}
use Rattle.aes3_line.proofs.due_octet.Goals as goal

pub returns-then-i-eq0 : goal.returns-then-i-eq0
unfolding due big_bits big
returns-then-i-eq0 c = rw c.if-i-eq0.true

pub returns-then-i-eq1 : goal.returns-then-i-eq1
unfolding due big_bits big
returns-then-i-eq1 c = rw (ne_eqb _ _ c.if-i-eq0.false, c.if-i-eq1.true)

pub returns : goal.returns
unfolding due big_bits big
returns c = rw (ne_eqb _ _ c.if-i-eq0.false, ne_eqb _ _ c.if-i-eq1.false)

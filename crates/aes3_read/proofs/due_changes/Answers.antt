-- `aes3_read::due_changes` meets its contract: the tests pick the preamble. Assumes nothing.
use mathlib.Core.Path.{ap}
use native.Mathlib.Omega.{arith}
use Rattle.aes3_line.proofs.Preambles.{due-first, due-even, due-odd}
use Rattle.aes3_read.specs.Inner.{due_changes}
use Rattle.aes3_read.proofs.due_changes.Goals as goal

pub returns-then-i-eq0 : goal.returns-then-i-eq0
returns-then-i-eq0 c = rw c.if-i-eq0.true (ap due_changes due-first)

pub returns-then-i-eq1 : goal.returns-then-i-eq1
returns-then-i-eq1 c = ap due_changes (due-odd c.args.i c.if-i-eq1.true)

pub returns : goal.returns
returns c = ap due_changes (due-even c.args.i (omega (arith, c.if-i-eq0.false)) (omega (arith, c.if-i-eq1.false)))

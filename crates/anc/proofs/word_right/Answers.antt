-- `anc::word_right` meets its contract. Assumes nothing.
use borrow.Author.Tests.{eq-eqb, ne_eqb}
use Rattle.anc.specs.Word.{word_right}
use Rattle.bits.proofs.Counts.{count-mod}
use Rattle.anc.proofs.word_right.Goals as goal

pub returns-then-w-eq0 : goal.returns-then-w-eq0
unfolding word_right
returns-then-w-eq0 c = rw (count-mod 9 c.args.w, eq-eqb _ _ c.if-w-eq0.true)

pub returns-else-w-eq0 : goal.returns-else-w-eq0
unfolding word_right
returns-else-w-eq0 c = rw (count-mod 9 c.args.w, ne_eqb _ _ c.if-w-eq0.false)

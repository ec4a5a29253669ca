-- `replay::sheet::line_sound` meets its contract. Assumes nothing.
use borrow.Author.Tests.{eq-eqb, ne_eqb}
use Rattle.replay.proofs.sheet.line_sound.Goals as goal

pub returns-then-mark-eq0 : goal.returns-then-mark-eq0
returns-then-mark-eq0 c = simp (eq-eqb _ _ c.if-mark-eq0.true)

pub returns-then-mark-eq1 : goal.returns-then-mark-eq1
returns-then-mark-eq1 c = simp (ne_eqb _ _ c.if-mark-eq0.false, eq-eqb _ _ c.if-mark-eq1.true)

pub returns : goal.returns
returns c = simp (ne_eqb _ _ c.if-mark-eq0.false, ne_eqb _ _ c.if-mark-eq1.false)

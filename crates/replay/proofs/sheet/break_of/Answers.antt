-- `replay::sheet::break_of` meets its contract. Assumes nothing.
use borrow.Author.Tests.{eq-eqb, ne_eqb}
use Rattle.replay.specs.Sheet.{break_of}
use borrow.Author.Rules.{rules}
use Rattle.replay.proofs.sheet.break_of.Goals as goal

pub returns-then-seen-eq0 : goal.returns-then-seen-eq0
unfolding break_of
returns-then-seen-eq0 c = record { value = simp (eq-eqb _ _ c.if-seen-eq0.true); upper_bound = search rules }

pub returns-then-last-eq0 : goal.returns-then-last-eq0
unfolding break_of
returns-then-last-eq0 c = record { value = simp (ne_eqb _ _ c.if-seen-eq0.false, eq-eqb _ _ c.if-last-eq0.true); upper_bound = search rules }

pub returns-then-dbn-eq0 : goal.returns-then-dbn-eq0
unfolding break_of
returns-then-dbn-eq0 c = record { value = simp (ne_eqb _ _ c.if-seen-eq0.false, ne_eqb _ _ c.if-last-eq0.false, eq-eqb _ _ c.if-dbn-eq0.true); upper_bound = search rules }

pub returns-then-is_next : goal.returns-then-is_next
unfolding break_of
returns-then-is_next c =
    record { value = simp (ne_eqb _ _ c.if-seen-eq0.false, ne_eqb _ _ c.if-last-eq0.false, ne_eqb _ _ c.if-dbn-eq0.false, ← c.is_next.ensures, c.if-is_next.true); upper_bound = search rules }

pub returns : goal.returns
unfolding break_of
returns c =
    record { value = simp (ne_eqb _ _ c.if-seen-eq0.false, ne_eqb _ _ c.if-last-eq0.false, ne_eqb _ _ c.if-dbn-eq0.false, ← c.is_next.ensures, c.if-is_next.false); upper_bound = search rules }

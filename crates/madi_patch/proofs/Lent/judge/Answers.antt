-- `madi_patch::Lent::judge` meets its contract, test by test. Assumes nothing.
use mathlib.Core.Path.{sym, ◌∙◌}
use borrow.Author.Tests.{eq-eqb, ne_eqb}
use Rattle.madi_patch.specs.Inner.{lent}
use Rattle.madi_patch.proofs.SlotLaws.{none_out, none_in, is-foreign, is-bad, is_carried}
use Rattle.madi_patch.proofs.Lent.judge.Goals as goal

pub returns-then-self-o : goal.returns-then-self-o
returns-then-self-o c = sym (none_out (lent c.args.self.now) c.args.o c.if-self-o.true)

pub returns-then-self-r : goal.returns-then-self-r
returns-then-self-r c = sym (none_in (lent c.args.self.now) c.args.o c.if-self-o.false c.if-self-r.true)

pub returns-then-self-r-2 : goal.returns-then-self-r-2
returns-then-self-r-2 c = sym (is-foreign (lent c.args.self.now) c.args.o c.if-self-o.false c.if-self-r.false c.if-self-r-2.true)

pub returns-then-parity-eq0 : goal.returns-then-parity-eq0
returns-then-parity-eq0 c =
    sym (is_carried (lent c.args.self.now) c.args.o c.if-self-o.false c.if-self-r.false c.if-self-r-2.false
    (eq-eqb _ 0 (sym c.parity.ensures ∙ c.if-parity-eq0.true)))

pub returns : goal.returns
returns c =
    sym (is-bad (lent c.args.self.now) c.args.o c.if-self-o.false c.if-self-r.false c.if-self-r-2.false
    (ne_eqb _ 0 (λ e. c.if-parity-eq0.false (c.parity.ensures ∙ e))))

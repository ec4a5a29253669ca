-- `anc::read_head` meets its contract, test by test. Assumes nothing.
use mathlib.Core.Path.{◌≡◌, sym, ap, ◌∙◌}
use mathlib.Core.Bool.{true}
use native.Mathlib.Omega.{arith}
use borrow.Author.Tests.{eq-eqb, ne_eqb, le-leb, lt-leb}
use mathlib.Core.List.{List}
use Prim.Native.Nat.{ℕ}
use lib.Dec.{eqb}
use lib.ListN.{get_or}
use Rattle.std.specs.Prelude.{Some}
use Rattle.answer.specs.Answer.{Answer.accepted}
use Rattle.answer.specs.Demand.{◌&◌}
use Rattle.answer.specs.Demand.Stops.{fails, later}
use Rattle.answer.proofs.Chains.{passing, stopped}
use Rattle.anc.specs.Head.{did_in, group_in, some_group, head_answer}
use Rattle.anc.proofs.Heads.{is_group, no-group, named, unnamed}
use Rattle.anc.proofs.read_head.Goals as goal

pub returns-then-words-lt6 : goal.returns-then-words-lt6
unfolding head_answer
returns-then-words-lt6 c =
    sym (stopped _ (fails (lt-leb 6 _ c.if-words-lt6.true)))

pub returns-then-words-ne0 : goal.returns-then-words-ne0
unfolding head_answer
returns-then-words-ne0 c =
    sym (stopped _ (later (le-leb 6 _ c.if-words-lt6.false) (fails (ne_eqb _ _ c.if-words-ne0.true))))

pub returns-then-words-ne1023 : goal.returns-then-words-ne1023
unfolding head_answer
returns-then-words-ne1023 c =
    sym (stopped _ (later (le-leb 6 _ c.if-words-lt6.false) (later (eq-eqb _ _ c.if-words-ne0.false) (fails (ne_eqb _ _ c.if-words-ne1023.true)))))

pub returns-then-words-ne1023-2 : goal.returns-then-words-ne1023-2
unfolding head_answer
returns-then-words-ne1023-2 c =
    sym (stopped _ (later (le-leb 6 _ c.if-words-lt6.false) (later (eq-eqb _ _ c.if-words-ne0.false)
    (later (eq-eqb _ _ c.if-words-ne1023.false) (fails (ne_eqb _ _ c.if-words-ne1023-2.true))))))

pub returns-in_default : goal.returns-in_default
unfolding head_answer
returns-in_default c =
    let a = c.args in
    let w = get_or a.words.now 3 0 in
    sym (stopped _ (later (le-leb 6 _ c.if-words-lt6.false) (later (eq-eqb _ _ c.if-words-ne0.false)
    (later (eq-eqb _ _ c.if-words-ne1023.false) (later (eq-eqb _ _ c.if-words-ne1023-2.false)
    (fails (unnamed a.dids w (omega arith) (no-group (group_in a.dids w) c.in_default.ensures))))))))

-- a group that is named
a-did : (dids : List ℕ) (w : ℕ) {g : ℕ} → Some g ≡ some_group (group_in dids w) → eqb w (did_in dids (group_in dids w)) ≡ true
a-did dids w e = eq-eqb w (did_in dids (group_in dids w)) (named dids w (is_group (group_in dids w) e).1).word

pub returns-then-words-dc : goal.returns-then-words-dc
unfolding head_answer
returns-then-words-dc c =
    let a = c.args in
    sym (stopped _ (later (le-leb 6 _ c.if-words-lt6.false) (later (eq-eqb _ _ c.if-words-ne0.false)
    (later (eq-eqb _ _ c.if-words-ne1023.false) (later (eq-eqb _ _ c.if-words-ne1023-2.false)
    (later (a-did a.dids (get_or a.words.now 3 0) c.in-Some.ensures) (fails (ne_eqb _ _ c.if-words-dc.true))))))))

pub returns : goal.returns
unfolding head_answer
returns c =
    let a = c.args in
    let w = get_or a.words.now 3 0 in
    ap accepted (is_group (group_in a.dids w) c.in-Some.ensures).0
    ∙ sym (passing _ _ (le-leb 6 _ c.if-words-lt6.false & eq-eqb _ _ c.if-words-ne0.false & eq-eqb _ _ c.if-words-ne1023.false
    & eq-eqb _ _ c.if-words-ne1023-2.false & a-did a.dids w c.in-Some.ensures & eq-eqb _ _ c.if-words-dc.false & tt))

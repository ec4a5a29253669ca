-- `hd_control::check_states` meets its contract, test by test. Assumes nothing.
use mathlib.Core.Path.{◌≡◌, sym, ap, ◌∙◌}
use mathlib.Core.Bool.{Bool, true, false, not}
use mathlib.Core.List.{List}
use Prim.Native.Nat.{ℕ, ◌/◌, ◌%◌, ◌^◌}
use borrow.Author.Tests.{eq-eqb, ne_eqb}
use lib.Dec.{eqb}
use lib.ListN.{get_or}
use Rattle.answer.specs.Demand.{◌&◌}
use Rattle.answer.specs.Demand.Stops.{fails, later}
use Rattle.answer.proofs.Chains.{stopped, passing}
use Rattle.hd_control.specs.Control.{misused, rate_reserved}
use Rattle.hd_control.proofs.check_states.Goals as goal
use Rattle.hd_control.proofs.check_states.Goals.{Else-misuses, Else-is_reserved}
use Rattle.hd_control.proofs.check_states.Goals.{then-words-ne0-via-then-words-ne0, then-words-ne0-via-else-words-ne0+then-is_reserved}

-- a test that found nothing, and one that did
clear : {r t : Bool} → r ≡ t → r ≡ false → not t ≡ true
clear e f = ap not (sym e ∙ f)

hit : {r t : Bool} → r ≡ t → r ≡ true → not t ≡ false
hit e f = ap not (sym e ∙ f)

-- the facts of words 4 and 6
module _ (e : Else-misuses) where
  abbrev ws : List ℕ
  ws = e.args.words.now

  word-4 : eqb (get_or ws 4 0) 0x200 ≡ true
  word-4 = eq-eqb _ _ e.if-words-ne512.false

  plain : not (misused (get_or ws 7 0 % 2) (get_or ws 6 0 % 2 ^ 9)) ≡ true
  plain = clear (rw (e.from.ensures, e.from-2.ensures) at e.misuses.ensures) e.if-misuses.false

-- and of word 7
module _ (e : Else-is_reserved) where
  abbrev words : List ℕ
  words = e.args.words.now

  high : eqb (get_or words 7 0 / 2 ^ 4 % 2 ^ 4) 0 ≡ true
  high = eq-eqb _ _ e.if-words-ne0.false

  known : not (rate_reserved (get_or words 7 0 / 2 % 2 ^ 3)) ≡ true
  known = clear (rw e.from-else-words-ne0.ensures at e.is_reserved.ensures) e.if-is_reserved.false

pub returns-then-words-ne512 : goal.returns-then-words-ne512
returns-then-words-ne512 c = sym (stopped _ (fails (ne_eqb _ _ c.if-words-ne512.true)))

pub returns-then-misuses : goal.returns-then-misuses
returns-then-misuses c =
    sym (stopped _ (later (eq-eqb _ _ c.if-words-ne512.false)
    (fails (hit (rw (c.from.ensures, c.from-2.ensures) at c.misuses.ensures) c.if-misuses.true))))

pub returns-then-words-ne0 : goal.returns-then-words-ne0
returns-then-words-ne0 c =
    let m = (goal.at.returns-then-words-ne0 c).Else-misuses in
    elim c.then-words-ne0.branch [
      | then-words-ne0-via-then-words-ne0 w ↦ sym (stopped _ (later (word-4 m) (later (plain m) (fails (ne_eqb _ _ w.if-words-ne0.true)))))
      | then-words-ne0-via-else-words-ne0+then-is_reserved w ↦
          sym (stopped _ (later (word-4 m) (later (plain m) (later (eq-eqb _ _ w.if-words-ne0.false)
          (fails (hit (rw w.from-else-words-ne0.ensures at w.is_reserved.ensures) w.if-is_reserved.true))))))
    ]

pub returns-then-words-ne0-2 : goal.returns-then-words-ne0-2
returns-then-words-ne0-2 c =
    let m = (goal.at.returns-then-words-ne0-2 c).Else-misuses in
    let r = (goal.at.returns-then-words-ne0-2 c).Else-is_reserved in
    sym (stopped _ (later (word-4 m) (later (plain m) (later (high r) (later (known r)
    (fails (ne_eqb _ _ c.if-words-ne0-2.true)))))))

pub returns-then-words-ne0-3 : goal.returns-then-words-ne0-3
returns-then-words-ne0-3 c =
    let m = (goal.at.returns-then-words-ne0-3 c).Else-misuses in
    let r = (goal.at.returns-then-words-ne0-3 c).Else-is_reserved in
    sym (stopped _ (later (word-4 m) (later (plain m) (later (high r) (later (known r)
    (later (eq-eqb _ _ c.if-words-ne0-2.false) (fails (ne_eqb _ _ c.if-words-ne0-3.true))))))))

pub returns-then-words-ne0-4 : goal.returns-then-words-ne0-4
returns-then-words-ne0-4 c =
    let m = (goal.at.returns-then-words-ne0-4 c).Else-misuses in
    let r = (goal.at.returns-then-words-ne0-4 c).Else-is_reserved in
    sym (stopped _ (later (word-4 m) (later (plain m) (later (high r) (later (known r)
    (later (eq-eqb _ _ c.if-words-ne0-2.false) (later (eq-eqb _ _ c.if-words-ne0-3.false)
    (fails (ne_eqb _ _ c.if-words-ne0-4.true)))))))))

pub returns : goal.returns
returns c =
    let m = (goal.at.returns c).Else-misuses in
    let r = (goal.at.returns c).Else-is_reserved in
    sym (passing _ _ (word-4 m & plain m & high r & known r & eq-eqb _ _ c.if-words-ne0-2.false
    & eq-eqb _ _ c.if-words-ne0-3.false & eq-eqb _ _ c.if-words-ne0-4.false & tt))

-- `hd_control::check_rules` meets its contract: no word before k is wrong. Assumes nothing.
use mathlib.Core.Path.{◌≡◌, sym}
use mathlib.Core.Bool.{true, false}
use native.Mathlib.Omega.{arith}
use borrow.Author.Count.{below_more}
use lib.ListN.{get_or}
use Rattle.answer.specs.Demand.{◌&◌}
use Rattle.answer.specs.Demand.Stops.{found}
use Rattle.answer.proofs.Chains.{stopped, passing}
use Rattle.anc.specs.Word.{right_by}
use Rattle.anc.proofs.Searched.{right-passes, wrong-fails}
use Rattle.hd_control.specs.Control.{rule_of}
use Rattle.hd_control.proofs.check_rules.Goals as goal

pub returns-then-not-right_by : goal.returns-then-not-right_by
returns-then-not-right_by c =
    let t : right_by (rule_of c.loop-k.k) (get_or c.args.words.now c.loop-k.k 0) ≡ false = cc in
    sym (stopped _ (found c.loop-k.auto.k c.loop-k-test.true (wrong-fails rule_of c.args.words.now c.loop-k.k t)
    (λ j h l. c.loop-k.invariant j l h)))

pub loop-k-preserved : goal.loop-k-preserved
loop-k-preserved c =
    let t : right_by (rule_of c.loop-k.k) (get_or c.args.words.now c.loop-k.k 0) ≡ true = cc in
    below_more _ _ c.loop-k.invariant (λ h. right-passes rule_of c.args.words.now c.loop-k.k t)

pub returns : goal.returns
returns c = sym (passing _ _ ((λ j h l. c.loop-k.invariant j (omega arith) h) & tt))

-- `anc::check_word` meets its contract: the sum so far and what is still to be added make the whole sum. Assumes nothing.
use mathlib.Core.Path.{◌≡◌, ap, ◌∙◌}
use mathlib.Core.List.{List}
use Prim.Native.Nat.{ℕ, ◌%◌, ◌^◌, ◌≤◌}
use native.Mathlib.Omega.{arith}
use borrow.Author.Rules.{rules}
use lib.ListN.{length, drop, drop_of_length-le}
use Rattle.anc.specs.Word.{sum_of, opposed, check_word}
use Rattle.anc.proofs.SumLaws.{sum-next}
use Rattle.anc.proofs.check_word.Goals as goal
use Rattle.anc.proofs.check_word.Goals.{At-loop-w}

module _ (c : At-loop-w) where
  abbrev words : List ℕ
  words = c.args.words.now

  abbrev sum : ℕ
  sum = c.loop-w.sum

  abbrev i : ℕ
  i = c.loop-w.w-index

  none_left : length words ≤ i → sum_of (drop i words) ≡ 0
  unfolding sum_of
  none_left h = ap sum_of (drop_of_length-le words h)

pub loop-w-preserved : goal.loop-w-preserved
loop-w-preserved c =
    let p = (goal.at.loop-w-preserved c).At-loop-w in
    (search rules, omega arith, sum-next (words p) (sum p) (i p) (sum_of (words p) % 2 ^ 9) (omega arith) p.loop-w.invariant.2)

pub returns : goal.returns
unfolding check_word
returns c =
    let p = (goal.at.returns c).At-loop-w in
    c.nine.ensures ∙ ap opposed (omega (arith, none_left p c.loop-w-test.false, c.loop-w.invariant.2))

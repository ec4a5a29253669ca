-- `anc::first_wrong` meets its contract: the position is the first place. Assumes nothing.
use mathlib.Core.Path.{refl}
use mathlib.Core.Bool.{not}
use borrow.Author.Rules.{rules}
use borrow.Author.Tests.{tests}
use Rattle.anc.specs.Word.{word_right, parities, right_by, wrong_at}
use Rattle.anc.specs.Inner.{first_wrong}
use Rattle.anc.proofs.Searched.{position-first}
use Rattle.anc.proofs.first_wrong.Goals as goal

pub returns : goal.returns
unfolding first_wrong wrong_at right_by
returns c =
    let ws = c.args.words.now in
    position-first (λ w. not (word_right w)) (wrong_at parities ws) ws (λ k. refl) _ _ c.position.result c.position.ensures.ran (cc)
    (λ x q k. search (rules, tests)) (λ x q k. search (rules, tests))

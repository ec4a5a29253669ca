-- `anc::first_wide` meets its contract: the position is the first place. Assumes nothing.
use mathlib.Core.Path.{refl, sym}
use borrow.Author.Rules.{rules}
use borrow.Author.Tests.{tests}
use lib.Dec.{ltb}
use Rattle.anc.specs.Word.{wide_at}
use Rattle.anc.specs.Inner.{first_wide}
use Rattle.anc.proofs.Searched.{position-first}
use Rattle.anc.proofs.first_wide.Goals as goal

pub returns-then-none_wide : goal.returns-then-none_wide
returns-then-none_wide c = sym (c.none_wide.ensures c.if-none_wide.true)

pub returns : goal.returns
unfolding first_wide wide_at
returns c =
    let ws = c.args.words.now in
    position-first (λ w. ltb 1023 w) (wide_at ws) ws (λ k. refl) _ _ c.position.result c.position.ensures.ran (cc)
    (λ x q k. search (rules, tests)) (λ x q k. search (rules, tests))

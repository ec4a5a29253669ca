-- `hd_write::first_low` meets its contract: the position is the first place. Assumes nothing.
use mathlib.Core.Path.{refl}
use mathlib.Core.Bool.{not}
use Prim.Native.Nat.{◌%◌, ◌^◌}
use borrow.Author.Rules.{rules}
use borrow.Author.Tests.{tests}
use lib.Dec.{eqb}
use Rattle.anc.proofs.Searched.{position-first}
use Rattle.hd_write.specs.Write.{low_body}
use Rattle.hd_write.specs.Inner.{first_low}
use Rattle.hd_write.proofs.first_low.Goals as goal

pub returns : goal.returns
unfolding first_low low_body
returns c =
    let bs = c.args.bodies.now in
    position-first (λ b. not (eqb (b % 2 ^ 4) 0)) (low_body bs) bs (λ k. refl) _ _ c.position.result c.position.ensures.ran (cc)
    (λ x q k. search (rules, tests)) (λ x q k. search (rules, tests))

-- `hd_write::first_odd` meets its contract: the position is the first place. Assumes nothing.
use mathlib.Core.Bool.{not}
use borrow.Author.Rules.{rules}
use borrow.Author.Tests.{tests}
use Rattle.anc.proofs.Searched.{position-first}
use Rattle.subframe.specs.Body.{even_body}
use Rattle.hd_packet.specs.Packet.{odd_body}
use Rattle.hd_packet.proofs.Channels.{odd-not-even}
use Rattle.hd_write.specs.Inner.{first_odd}
use Rattle.hd_write.proofs.first_odd.Goals as goal

pub returns : goal.returns
unfolding first_odd
returns c =
    let bs = c.args.bodies.now in
    position-first (λ b. not (even_body b)) (odd_body bs) bs (odd-not-even bs) _ _ c.position.result c.position.ensures.ran (cc)
    (λ x q k. search (rules, tests)) (λ x q k. search (rules, tests))

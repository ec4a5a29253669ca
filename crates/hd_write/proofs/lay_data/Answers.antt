-- `hd_write::lay_data` meets its contract: DID by cases, the channels one after the other. Assumes nothing.
use mathlib.Core.Path.{ap, ◌∙◌}
use mathlib.Core.List.{List, ◌++◌}
use Prim.Native.Nat.{ℕ}
use lib.ListN.{get_or, replicate}
use Rattle.hd_packet.proofs.Groups.{did-octet}
use Rattle.hd_packet.proofs.Channels.{no-z}
use Rattle.hd_packet.proofs.Laid.{data-octets}
use Rattle.hd_write.proofs.lay_data.Goals as goal

pub returns : goal.returns
returns c =
    let bs = c.args.bodies.now in
    rw (did-octet c.args.f.group c.requires.some c.requires.four)
    (ap (λ (l : List ℕ). l ++ replicate 6 0)
    (data-octets c.args.f bs c.of_body.result c.of_body-2.result c.of_body-3.result c.of_body-4.result c.of_body.ensures
    (c.of_body-2.ensures ∙ no-z (get_or bs 1 0)) c.of_body-3.ensures (c.of_body-4.ensures ∙ no-z (get_or bs 3 0))))

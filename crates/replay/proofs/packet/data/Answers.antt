-- `replay::packet::data` meets its contract. Assumes nothing.
use mathlib.Core.Path.{refl, ◌∙◌}
use lib.ListN.{replicate}
use Rattle.replay.proofs.Entries.{data-short, data_is}
use Rattle.replay.proofs.packet.data.Goals as goal

pub returns-then-octets-ne62 : goal.returns-then-octets-ne62
returns-then-octets-ne62 c = c.refused.ensures ∙ data-short _ c.if-octets-ne62.true

pub returns : goal.returns
returns c =
    c.heard.ensures
    ∙ data_is _ (replicate 31 0) (replicate 31 0) c.if-octets-ne62.false refl refl c.fill_words.ensures c.fill_words.ensures
    c.repair_packet-lanes.ensures.repaired_after c.repair_packet-lanes.ensures.result_value c.group-group.ensures refl

-- `madi_code::channel_bits` meets its contract: eight groups by the table are the channel. Assumes nothing.
use mathlib.Core.Path.{◌∙◌}
use Rattle.madi_code.proofs.TableLaws.{groups-sent, groups-send}
use Rattle.madi_code.proofs.channel_bits.Goals as goal

pub returns : goal.returns
returns c = c.bits_by.ensures ∙ groups-sent _ _ (groups-send _ c.groups-table.ensures)

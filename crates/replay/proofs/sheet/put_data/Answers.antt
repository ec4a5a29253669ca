-- `replay::sheet::put_data` meets its contract. Assumes nothing.
use mathlib.Core.Path.{refl}
use Rattle.replay.proofs.Changes.{wrote, wrote_none}
use Rattle.replay.proofs.sheet.put_data.Goals as goal

pub returns : goal.returns
returns c =
    wrote _ _ _ _ c.put.ensures refl (wrote _ _ _ _ c.put-2.ensures refl (wrote _ _ _ _ c.put-3.ensures refl
    (wrote _ _ _ _ c.put-4.ensures refl (wrote _ _ _ _ c.put-5.ensures c.from.ensures (wrote_none _)))))

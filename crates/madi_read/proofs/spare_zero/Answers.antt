-- `madi_read::spare_zero` meets its contract. Assumes nothing.
use native.Mathlib.Omega.{arith}
use Prim.Native.Nat.{◌*◌, ◌-◌}
use lib.ListN.{length}
use Rattle.line.proofs.LoadLaws.{load-window}
use Rattle.madi_read.proofs.spare_zero.Goals as goal

pub returns : goal.returns
returns c =
    let a = c.args in
    rw (c.load.ensures, load-window a.line.now a.bits (length a.line.now * 8 - a.bits) (omega arith))

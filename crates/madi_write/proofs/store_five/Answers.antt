-- `madi_write::store_five` meets its contract. Assumes nothing.
use native.Mathlib.Omega.{arith}
use lib.ListN.{length-set}
use Rattle.madi_write.proofs.Storing.{five-stored}
use Rattle.madi_write.proofs.store_five.Goals as goal

pub bounds-line-j-2 : goal.bounds-line-j-2
bounds-line-j-2 c = simp length-set (omega arith)

pub bounds-line-j-3 : goal.bounds-line-j-3
bounds-line-j-3 c = simp length-set (omega arith)

pub bounds-line-j-4 : goal.bounds-line-j-4
bounds-line-j-4 c = simp length-set (omega arith)

pub bounds-line-j-5 : goal.bounds-line-j-5
bounds-line-j-5 c = simp length-set (omega arith)

pub returns : goal.returns
returns c = five-stored c.args.j c.args.y c.args.line.now

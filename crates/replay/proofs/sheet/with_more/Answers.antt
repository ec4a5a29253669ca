-- `replay::sheet::with_more` meets its contract. Assumes nothing.
use native.Mathlib.Omega.{arith}
use Rattle.replay.proofs.sheet.with_more.Goals as goal

pub overflow_add-result : goal.overflow_add-result
overflow_add-result c = omega (arith, c.from.ensures, c.from-2.ensures, c.shared_slice_known-1.given c.args.k, c.ranges.n)

pub returns : goal.returns
returns c = omega (arith, c.from.ensures, c.from-2.ensures)

-- `madi_read::at_boundary::due_piece` meets its contract: a group's place is within the frame. Assumes nothing.
use native.Mathlib.Omega.{arith}
use Rattle.madi_read.proofs.at_boundary.due_piece.Goals as goal

pub overflow_mul-result : goal.overflow_mul-result
overflow_mul-result c = omega (arith, c.requires.group c.in-Err.broken c.in-Err.is)

pub overflow_add-result : goal.overflow_add-result
overflow_add-result c = omega (arith, c.requires.group c.in-Err.broken c.in-Err.is)

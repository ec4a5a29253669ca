-- `codes::turned` meets its contract: halves, pairs and bits change places, by a test that antt computes at every octet.
-- Assumes nothing.
use Prim.Native.Nat.{◌/◌}
use native.Mathlib.Omega.{arith}
use lib.Bits.{and_le_r}
use Rattle.codes.proofs.SentOctet.{halves, pairs, turned-octet}
use Rattle.codes.proofs.turned.Goals as goal

pub overflow_mul-b : goal.overflow_mul-b
overflow_mul-b c = omega (arith, and_le_r (halves c.args.o) 51)

pub overflow_add-b : goal.overflow_add-b
overflow_add-b c = omega (arith, and_le_r (halves c.args.o) 51, and_le_r (halves c.args.o / 4) 51)

pub overflow_mul-result : goal.overflow_mul-result
overflow_mul-result c = omega (arith, and_le_r (pairs c.args.o) 85)

pub overflow_add-result : goal.overflow_add-result
overflow_add-result c = omega (arith, and_le_r (pairs c.args.o) 85, and_le_r (pairs c.args.o / 2) 85)

pub returns : goal.returns
returns c = turned-octet c.args.o (omega arith)

-- `block::from_bodies::slots_and_parity` meets its contract. Assumes nothing.
use mathlib.Core.Path.{ap}
use Prim.Native.Nat.{ℕ, ◌+◌, ◌*◌, ◌/◌, ◌^◌, ◌<◌}
use native.Mathlib.Omega.{arith}
use Rattle.subframe.proofs.BodyLaws.{parity-lt}
use Rattle.block.proofs.from_bodies.slots_and_parity.Goals as goal
use Rattle.block.proofs.from_bodies.slots_and_parity.Goals.{After-parity}

-- the parity is a digit
digit : (c : After-parity) → c.parity.result < 2
digit c = rw c.parity.ensures (parity-lt c.args.body)

pub overflow_mul-result : goal.overflow_mul-result
overflow_mul-result c = omega (arith, digit c)

pub overflow_add-result : goal.overflow_add-result
overflow_add-result c = omega (arith, digit c)

pub returns : goal.returns
returns c = (ap (λ (p : ℕ). c.args.body / 2 ^ 28 + p * 16) c.parity.ensures, omega (arith, digit c))

-- `aes3_write::last_slots` meets its contract: P is the parity of all bits before it, in whatever order. Assumes nothing.
use mathlib.Core.Path.{ap, ◌∙◌}
use Prim.Native.Nat.{ℕ, ◌+◌, ◌*◌, ◌<◌}
use native.Mathlib.Omega.{arith}
use Rattle.subframe.proofs.BodyLaws.{parity-lt}
use Rattle.aes3_write.proofs.Writing.{same-parity}
use Rattle.aes3_write.proofs.last_slots.Goals as goal
use Rattle.aes3_write.proofs.last_slots.Goals.{After-parity}

p-lt : (c : After-parity) → c.parity.result < 2
p-lt c = omega (arith, c.parity.ensures, parity-lt (c.args.code * 256 + c.args.flags * 16))

pub overflow_mul-result : goal.overflow_mul-result
overflow_mul-result c = omega (arith, p-lt c)

pub overflow_add-result : goal.overflow_add-result
overflow_add-result c = omega (arith, p-lt c)

pub overflow_cast-result : goal.overflow_cast-result
overflow_cast-result c = omega (arith, p-lt c)

pub returns : goal.returns
returns c =
    let k = c.args.code in
    let f = c.args.flags in
    (ap (λ (p : ℕ). f + p * 8) (c.parity.ensures ∙ same-parity k f c.requires.0 c.requires.1), omega (arith, p-lt c))

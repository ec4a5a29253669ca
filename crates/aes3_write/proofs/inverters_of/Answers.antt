-- `aes3_write::inverters_of` meets its contract: the table's entry for three lowest bits. Assumes nothing.
use mathlib.Core.Path.{ap, ◌∙◌}
use mathlib.Core.List.{List}
use Prim.Native.Nat.{ℕ, ◌*◌, ◌/◌, ◌%◌}
use native.Mathlib.Omega.{arith}
use lib.Bits.{bit_and}
use lib.ListN.{get_or}
use Rattle.aes3_write.proofs.Inverting.{lows-lt, inverters-right, inverters-at}
use Rattle.aes3_write.proofs.inverters_of.Goals as goal

pub overflow_mul-result : goal.overflow_mul-result
overflow_mul-result c = omega (arith, lows-lt c.args.u)

pub returns : goal.returns
returns c =
    let u = c.args.u in
    ap (λ (t : List ℕ). get_or t (bit_and u 0x100010001 * 0x80010002 / 0x80000000 % 8) 0) inverters-right ∙ inverters-at u

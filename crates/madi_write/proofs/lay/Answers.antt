-- `madi_write::lay` meets its contract. Assumes nothing.
use mathlib.Core.Path.{refl}
use Prim.Native.Nat.{◌-◌, ◌*◌, ◌^◌}
use native.Mathlib.Omega.{arith}
use lib.Bits.{bit_xor}
use Rattle.madi_write.proofs.Storing.{levels-inverted}
use Rattle.madi_write.proofs.lay.Goals as goal

pub overflow_mul-y : goal.overflow_mul-y
overflow_mul-y c = omega arith

pub overflow_mul-b : goal.overflow_mul-b
overflow_mul-b c = omega arith

pub store_five-requires : goal.store_five-requires
store_five-requires c = omega arith

pub returns : goal.returns
returns c =
    let a = c.args in (
      bit_xor c.levels_after.result (a.last * (2 ^ 41 - 1)),
      levels-inverted a.last a.x c.levels_after.result (omega arith) (omega arith) c.levels_after.ensures,
      refl,
      c.store_five.ensures,
    )

-- `aes3_hunt::compare` meets its contract. Assumes nothing.
use Prim.Native.Nat.{◌+◌, ◌-◌}
use native.Mathlib.Omega.{arith}
use Rattle.bits.specs.Pack.{symbols}
use Rattle.bits.proofs.Windows.{window-lt}
use Rattle.aes3_hunt.proofs.Symbols.{differing}
use Rattle.aes3_hunt.proofs.compare.Goals as goal

pub overflow_mul-required : goal.overflow_mul-required
overflow_mul-required c =
    let a = c.args in
    omega (arith, c.nine-z.ensures, window-lt (symbols a.line.now) (a.p - 1) 9)

pub overflow_add-required : goal.overflow_add-required
overflow_add-required c =
    let a = c.args in
    omega (
      arith,
      c.nine-z.ensures,
      window-lt (symbols a.line.now) (a.p - 1) 9,
      c.nine-y.ensures,
      window-lt (symbols a.line.now) (a.p + 63) 9,
    )

pub returns : goal.returns
returns c =
    differing (symbols c.args.line.now) c.args.p c.requires.0 c.nine-z.ensures c.nine-y.ensures

-- `aes3_line::after_level` meets its contract: the test says which it is. Assumes nothing.
use mathlib.Core.Path.{◌≡◌}
use Prim.Native.Nat.{◌%◌}
use native.Mathlib.Omega.{arith}
use Rattle.aes3_line.proofs.after_level.Goals as goal

pub returns-then-level-eq0 : goal.returns-then-level-eq0
returns-then-level-eq0 c = rw c.if-level-eq0.true

pub returns : goal.returns
returns c =
    let e : c.args.level % 2 ≡ 1 = omega arith in
    rw e

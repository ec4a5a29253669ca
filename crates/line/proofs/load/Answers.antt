-- `line::load` meets its contract: eight octets at once where they are there. Assumes nothing.
use mathlib.Core.Path.{◌≡◌, ◌∙◌}
use Prim.Native.Nat.{◌+◌, ◌*◌, ◌/◌, ◌%◌}
use native.Mathlib.Omega.{arith}
use borrow.Author.Tests.{le-leb}
use Rattle.line.specs.Load.{loaded}
use Rattle.line.proofs.load.Goals as goal

pub returns-then-at-line : goal.returns-then-at-line
unfolding loaded
returns-then-at-line c =
    let a = c.args in
    let e : a.at / 8 * 8 + a.at % 8 ≡ a.at = omega arith in
    c.inside.ensures ∙ rw (le-leb a.n 56 c.if-n-le56.true, e)

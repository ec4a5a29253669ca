-- `line::word` meets its contract: two windows side by side, where eight octets are left. Assumes nothing.
use mathlib.Core.Path.{◌≡◌, sym, ap, ap₂, ◌∙◌}
use Prim.Native.Nat.{ℕ, ◌+◌, ◌*◌, ◌^◌}
use native.Mathlib.Omega.{arith}
use borrow.Author.Tests.{le-leb, lt-leb}
use lib.ListN.{length}
use Rattle.bits.specs.Window.{window}
use Rattle.bits.specs.Pack.{symbols}
use Rattle.bits.proofs.Windows.{window-lt, window-split}
use Rattle.line.specs.Load.{word_at}
use Rattle.line.proofs.word.Goals as goal
use Rattle.line.proofs.word.Goals.{After-four-low}

pub returns-then-line-lt8 : goal.returns-then-line-lt8
unfolding word_at
returns-then-line-lt8 c =
    let a = c.args in
    rw (lt-leb (a.j + 8) (length a.line.now) (omega arith))

sides : (c : After-four-low)
    → c.four-high.result * 2 ^ 32 + c.four-low.result
    ≡ window (symbols c.args.line.now) (c.args.j * 8) 64
sides c =
    let a = c.args in
    let p : (a.j + 4) * 8 ≡ a.j * 8 + 32 = omega arith in
    ap₂ (λ (x y : ℕ). x * 2 ^ 32 + y) c.four-high.ensures (c.four-low.ensures ∙ ap (λ (at : ℕ). window (symbols a.line.now) at 32) p)
    ∙ sym (window-split (symbols a.line.now) (a.j * 8) 32 32)

pub overflow_mul-result : goal.overflow_mul-result
overflow_mul-result c =
    let a = c.args in
    omega (arith, c.four-high.ensures, window-lt (symbols a.line.now) (a.j * 8) 32)

pub overflow_add-result : goal.overflow_add-result
overflow_add-result c =
    let a = c.args in
    omega (arith, sides c, window-lt (symbols a.line.now) (a.j * 8) 64)

pub returns : goal.returns
unfolding word_at
returns c =
    let a = c.args in
    sides c ∙ rw (le-leb (a.j + 8) (length a.line.now) (omega arith))

-- `line::inside` meets its contract: a part of a word. Assumes nothing.
use mathlib.Core.Path.{◌≡◌, ap₂, ◌∙◌}
use Prim.Native.Nat.{ℕ, ◌+◌, ◌*◌, ◌-◌, ◌/◌, ◌%◌, ◌^◌}
use native.Mathlib.Omega.{arith}
use borrow.Author.Tests.{le-leb}
use lib.ListN.{length}
use lib.Pow.{pow_pos}
use Rattle.bits.specs.Window.{window}
use Rattle.bits.specs.Pack.{symbols}
use Rattle.bits.proofs.Windows.{window-inside, one_shl}
use Rattle.line.specs.Load.{word_at}
use Rattle.line.proofs.inside.Goals as goal

pub nonzero_rem-result : goal.nonzero_rem-result
nonzero_rem-result c = rw (one_shl 64 c.args.n (omega arith)) (pow_pos c.args.n)

pub returns : goal.returns
unfolding word_at
returns c =
    let a = c.args in
    let w : c.word.result ≡ window (symbols a.line.now) (a.j * 8) 64 =
    c.word.ensures ∙ rw (le-leb (a.j + 8) (length a.line.now) (omega arith)) in
    ap₂ (λ (x d : ℕ). x / 2 ^ (64 - (a.k + a.n)) % d) w (one_shl 64 a.n (omega arith))
    ∙ window-inside (symbols a.line.now) (a.j * 8) 64 a.k a.n (omega arith)

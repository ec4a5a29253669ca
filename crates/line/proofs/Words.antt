-- Eight octets as one word. Assumes nothing.
use mathlib.Core.Path.{◌≡◌, ap, ◌∙◌}
use mathlib.Core.List.{List}
use Prim.Native.Nat.{ℕ, ◌+◌}
use native.Mathlib.Omega.{arith}
use borrow.Author.Tests.{le-leb}
use lib.ListN.{length}
use Rattle.bits.specs.Row.{big}
use Rattle.bits.specs.Window.{window}
use Rattle.bits.specs.Pack.{symbols}
use Rattle.bits.proofs.Windows.{part-all}
use Rattle.bits.proofs.Packing.{highest, length-chain}
use Rattle.line.specs.Load.{word_at}

pub word-whole : (os : List ℕ) → length os ≡ 8 → word_at os 0 ≡ big (symbols os)
unfolding word_at window
word-whole os n =
    let m : length (symbols os) ≡ 64 = length-chain (highest 8) os ∙ rw n in
    rw (le-leb (0 + 8) (length os) (omega arith)) (ap big (part-all (symbols os) 64 m))

-- What is loaded from a line. Assumes nothing.
use mathlib.Core.Path.{◌≡◌}
use mathlib.Core.List.{List}
use Prim.Native.Nat.{ℕ, ◌≤◌}
use borrow.Author.Tests.{le-leb}
use Rattle.bits.specs.Window.{window}
use Rattle.bits.specs.Pack.{symbols}
use Rattle.line.specs.Load.{loaded}

-- up to 56 bits that are loaded are the window of the line's symbols
pub load-window : (line : List ℕ) (at n : ℕ) → n ≤ 56 → loaded line at n ≡ window (symbols line) at n
unfolding loaded
load-window line at n h = rw (le-leb n 56 h)

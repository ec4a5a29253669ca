-- The bits that a line carries, as the code takes them from the line's octets. Assumes nothing.
use mathlib.Core.Path.{◌≡◌, sym, ap, ◌∙◌}
use mathlib.Core.List.{List}
use Prim.Native.Nat.{ℕ, ◌+◌, ◌*◌, ◌/◌, ◌^◌, ◌≤◌}
use native.Mathlib.Omega.{arith}
use lib.ListN.{length}
use Rattle.bits.specs.Row.{Row, odd, big_bits, big}
use Rattle.bits.specs.Window.{part, window}
use Rattle.bits.specs.Pack.{symbols}
use Rattle.bits.proofs.Rows.{big_bits-big}
use Rattle.bits.proofs.Windows.{length_part, window-high}
use Rattle.bits.proofs.Packing.{length-chain, highest}
use Rattle.line.specs.Nrzi.{changes}
use Rattle.line.proofs.NrziLaws.{length-changes, changes-first}
use Rattle.madi_read.specs.Reader.{carried}

pub length-carried : (level bits : ℕ) (line : List ℕ) → length (carried level bits line) ≡ bits
unfolding carried
length-carried level bits line = length-changes (odd level) (part (symbols line) 0 bits) ∙ length_part (symbols line) 0 bits

module _ (level bits : ℕ) (line : List ℕ) (long : bits ≤ length line * 8) where
  part-carried : (at n : ℕ) → at + n ≤ bits → part (changes (odd level) (symbols line)) at n ≡ part (carried level bits line) at n
  unfolding carried
  part-carried at n h = sym (changes-first (odd level) (symbols line) bits at n h (omega (arith, length-chain (highest 8) line)))

  pub window-carried : (at n : ℕ) → at + n ≤ bits → window (changes (odd level) (symbols line)) at n ≡ window (carried level bits line) at n
  unfolding window
  window-carried at n h = ap big (part-carried at n h)

-- forty bits as a number: their row, and the first ten
module _ (r : Row) (at v : ℕ) (e : v ≡ window r at 40) where
  pub forty : big_bits 40 v ≡ part r at 40
  unfolding window
  forty = ap (big_bits 40) e ∙ (rw (length_part r at 40) at (big_bits-big (part r at 40)))

  pub first-ten : v / 2 ^ 30 ≡ window r at 10
  first-ten = ap (λ (x : ℕ). x / 2 ^ 30) e ∙ window-high r at 10 30

-- A column's row octet by octet, for what counts frames in it; and two tests of the checks as they stand. Assumes nothing.
use mathlib.Core.Path.{◌≡◌, refl}
use mathlib.Core.Bool.{not}
use mathlib.Core.List.{List, [], ◌∷◌, ◌++◌}
use Prim.Native.Nat.{ℕ, ◌*◌, ◌≤◌, ◌<◌}
use native.Mathlib.Omega.{arith}
use borrow.Author.Tests.{eq-eqb, lt-ltb}
use lib.IntN.{ℤ, pos}
use lib.ListN.{length, get_or, drop, length-take}
use Rattle.bits.specs.Row.{bits}
use Rattle.bits.specs.Pack.{chain}
use Rattle.bits.proofs.Packing.{lowest, length-chain}
use Rattle.codes.specs.Crcc.{crcc_right}
use Rattle.subframe.specs.Signed.{in_range}
use Rattle.block.specs.Side.{column_length, side_length, column_in, column_row}
use Rattle.block.specs.Check.{status_of, status_right, outside}

pub row-none : column_row [] ≡ []
unfolding column_row chain
row-none = refl

pub row_next : (octet : ℕ) (octets : List ℕ) → column_row (octet ∷ octets) ≡ bits 8 octet ++ column_row octets
unfolding column_row chain
row_next octet octets = refl

-- a row has 192 frames at most, whatever the table
pub row-le : (t : List ℕ) (k : ℕ) → length (column_row (column_in t k)) ≤ 192
unfolding column_row column_in
row-le t k = omega (arith, length-chain (lowest 8) (column_in t k), length-take column_length (drop (column_length * k) t))

-- ---- tests of one place

pub outside-is : (samples : List ℤ) (i : ℕ) → outside samples i ≡ not (in_range 24 (get_or samples i (pos 0)))
unfolding outside
outside-is samples i = refl

pub right_is : (t : List ℕ) (channel : ℕ) → length t ≡ side_length → channel < 2 → status_right t channel ≡ crcc_right (status_of channel t)
unfolding status_right
right_is t channel n h = rw (eq-eqb (length t) side_length n, lt-ltb channel 2 h)

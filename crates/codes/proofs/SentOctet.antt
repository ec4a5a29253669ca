-- The octet that the CRCC's stages are sent as: how the code turns it, and its range. Assumes nothing.
use mathlib.Core.Path.{◌≡◌}
use Prim.Native.Nat.{ℕ, ◌+◌, ◌*◌, ◌/◌, ◌%◌, ◌<◌}
use lib.Bits.{bit_and}
use Rattle.bits.specs.Row.{big_bits, little}
use Rattle.bits.proofs.Rows.{length-big_bits, little-lt}
use Rattle.bits.proofs.Every.{agree}
use Rattle.codes.specs.Crcc.{octet_of}

-- its halves change places, then the pairs in them, then the bits in those
abbrev pub halves : ℕ → ℕ
halves o = o % 16 * 16 + o / 16

abbrev pub pairs : ℕ → ℕ
pairs o = bit_and (halves o) 51 * 4 + bit_and (halves o / 4) 51

abbrev turned : ℕ → ℕ
turned o = bit_and (pairs o) 85 * 2 + bit_and (pairs o / 2) 85

pub turned-octet : (o : ℕ) → o < 256 → turned o ≡ octet_of o
unfolding octet_of little big_bits
turned-octet = agree 256 turned octet_of tt

pub octet-lt : (s : ℕ) → octet_of s < 256
unfolding octet_of
octet-lt s = rw (length-big_bits 8 s) at (little-lt (big_bits 8 s))

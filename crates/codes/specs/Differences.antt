-- How two blocks of channel status differ. Positions are those of the sending order: bit 0 of byte 0 first, byte 23
-- with the others; the borders of octets are nothing special. Assumes nothing.
use Rattle.std.specs.Prelude.{◌≡◌, ℕ, ◌+◌, ◌≤◌, ◌<◌, false, List, [], ◌∷◌, get_or}
use Rattle.std.specs.Int.Bits.{bit_xor}
use Rattle.bits.specs.Row.{Row, count}
use Rattle.codes.specs.Crcc.{sent}

-- their exclusive or, octet by octet; past the end of the shorter the octets of the longer
unfoldable pub xored : List ℕ → List ℕ → List ℕ
xored [] b = b
xored (o ∷ a) [] = o ∷ a
xored (o ∷ a) (p ∷ b) = bit_xor o p ∷ xored a b

-- the positions at which they differ
unfoldable pub differences : List ℕ → List ℕ → Row
differences a b = sent (xored a b)

abbrev pub InOneBit : List ℕ → List ℕ → Type 0
InOneBit a b = count (differences a b) ≡ 1

abbrev pub InTwoBits : List ℕ → List ℕ → Type 0
InTwoBits a b = count (differences a b) ≡ 2

-- in some bits, all of them among the eight consecutive ones from a position on
pub record WithinEight (a b : List ℕ) : Type 0 where
  pub some : count (differences a b) ≡ 0 → ⊥
  pub from : ℕ
  pub none_before : (i : ℕ) → i < from → get_or (differences a b) i false ≡ false
  pub none-past : (i : ℕ) → from + 8 ≤ i → get_or (differences a b) i false ≡ false

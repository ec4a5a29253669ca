-- From the numbers of a meaning back to the bits of bytes 0 to 2 that it is of, so that it can be said that a meaning
-- loses nothing. Assumes nothing.
use Prim.Native.Nat.{ℕ, ◌+◌, ◌*◌, ◌^◌}
use mathlib.Core.List.{List, [], ◌∷◌}
use lib.Dec.{eqb}
use lib.ListN.{get_or}
use Rattle.bits.specs.Pick.{pick}
use Rattle.status.specs.Meaning.{in_table}
use Rattle.status.specs.declared.MeaningNumbers.{MeaningNumbers}

-- the bits of a state from its number, by the rows of its table; of a reserved one, those that stand beside
unfoldable pub bits_of : List ℕ → ℕ → ℕ → ℕ
bits_of rows state bits = pick (eqb state 255) bits (get_or rows state 0)

-- 100 is the use of the auxiliary bits for the main audio, whose words have up to 24 bits
unfoldable pub word_bits : ℕ → ℕ → ℕ → ℕ
word_bits auxiliary state bits =
    pick (eqb state 255) bits
    (pick (eqb auxiliary 0b100)
    (in_table ((23, 0b100) ∷ (22, 0b010) ∷ (21, 0b110) ∷ (20, 0b001) ∷ (24, 0b101) ∷ []) 0b000 state)
    (in_table ((19, 0b100) ∷ (18, 0b010) ∷ (17, 0b110) ∷ (16, 0b001) ∷ (20, 0b101) ∷ []) 0b000 state))

abbrev pub emphasis_rows : List ℕ
emphasis_rows = 0b000 ∷ 0b001 ∷ 0b011 ∷ 0b111 ∷ []

abbrev pub lock_rows : List ℕ
lock_rows = 0b0 ∷ 0b1 ∷ []

abbrev pub rate_rows : List ℕ
rate_rows = 0b00 ∷ 0b10 ∷ 0b01 ∷ 0b11 ∷ []

abbrev pub mode_rows : List ℕ
mode_rows =
    0b0000 ∷ 0b1000 ∷ 0b0100 ∷ 0b1100 ∷ 0b0010 ∷ 0b1010 ∷ 0b0110 ∷ 0b1110 ∷ 0b0001 ∷ 0b1001 ∷ 0b1111 ∷ []

abbrev pub user_rows : List ℕ
user_rows = 0b0000 ∷ 0b1000 ∷ 0b0100 ∷ 0b1100 ∷ 0b0010 ∷ 0b1010 ∷ 0b0110 ∷ []

abbrev pub auxiliary_rows : List ℕ
auxiliary_rows = 0b000 ∷ 0b100 ∷ 0b010 ∷ 0b110 ∷ []

abbrev pub alignment_rows : List ℕ
alignment_rows = 0b00 ∷ 0b10 ∷ 0b01 ∷ []

-- ---- the bytes

unfoldable pub byte0_of : MeaningNumbers → ℕ
byte0_of n =
    n.usage + n.audio * 2 ^ 1 + bits_of emphasis_rows n.emphasis n.emphasis_bits * 2 ^ 2 + bits_of lock_rows n.lock 0 * 2 ^ 5
    + bits_of rate_rows n.rate 0 * 2 ^ 6

unfoldable pub byte1_of : MeaningNumbers → ℕ
byte1_of n = bits_of mode_rows n.mode n.mode_bits + bits_of user_rows n.user n.user_bits * 2 ^ 4

unfoldable pub byte2_of : MeaningNumbers → ℕ
byte2_of n =
    let auxiliary = bits_of auxiliary_rows n.auxiliary n.auxiliary_bits in
    auxiliary + word_bits auxiliary n.word_length n.word_length_bits * 2 ^ 3
    + bits_of alignment_rows n.alignment n.alignment_bits * 2 ^ 6

unfoldable pub bytes_of : MeaningNumbers → List ℕ
bytes_of n = byte0_of n ∷ byte1_of n ∷ byte2_of n ∷ []

-- The side table: columns of 24 octets, those of channel A and then those of B. Bit i of octet j of a column belongs to
-- frame 8 j + i; bit 0 has weight 1. Which columns there are is said by one list. Assumes nothing.
use Rattle.std.specs.Prelude.{ℕ, ◌+◌, ◌*◌, ◌/◌, ◌%◌, ◌&&◌, List, [], ◌∷◌, ltb, length, get_or, take, drop}
use Rattle.bits.specs.Pick.{pick}
use Rattle.bits.specs.Row.{Row, bit, bits, little}
use Rattle.bits.specs.Pack.{chain, pack}
use Rattle.subframe.specs.Body.{parity_of, even_body}

-- V of a body as it came: slot 28, but 1 where the ones in slots 4 to 31 are odd
abbrev pub validity_of : ℕ → ℕ
validity_of body = pick (even_body body) (bit 28 body) 1

-- the columns of a channel, by what each holds of a body: V; U slot 29; C slot 30; E 1 where the ones in slots 4 to 31
-- are odd
abbrev pub column_bits : List (ℕ → ℕ)
column_bits = (λ body. validity_of body) ∷ (λ body. bit 29 body) ∷ (λ body. bit 30 body) ∷ (λ body. parity_of body) ∷ []

-- how many they are, and which is which
abbrev pub columns : ℕ
columns = length column_bits

abbrev pub validity : ℕ
validity = 0

abbrev pub user : ℕ
user = 1

abbrev pub status : ℕ
status = 2

abbrev pub fault : ℕ
fault = 3

-- what a column holds of a body; 0 where there is no such column
unfoldable pub column_bit : ℕ → ℕ → ℕ
column_bit column body = get_or column_bits column (λ b. 0) body

-- how many octets a column has, and the table
abbrev pub column_length : ℕ
column_length = 24

abbrev pub side_length : ℕ
side_length = column_length * (2 * columns)

-- the bit of a frame in a column; 0 where the table has none
unfoldable pub side_bit : List ℕ → ℕ → ℕ → ℕ
side_bit table column frame =
    pick (ltb column (2 * columns) && ltb frame 192) (bit (frame % 8) (get_or table (column_length * column + frame / 8) 0)) 0

-- ---- one column: its octets in the table, the row of its frames' bits, and back

unfoldable pub column_in : List ℕ → ℕ → List ℕ
column_in table column = take column_length (drop (column_length * column) table)

unfoldable pub column_row : List ℕ → Row
column_row column = chain (bits 8) column

unfoldable pub column_of : Row → List ℕ
column_of r = pack little 8 column_length r

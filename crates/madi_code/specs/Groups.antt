-- The five-bit groups, the commands, and what five bits mean. Assumes nothing.
use Rattle.std.specs.Prelude.{ℕ, ◌/◌, ◌%◌, Bool, true, false, ◌||◌, List, [], ◌∷◌, eqb, get_or}
use Rattle.bits.specs.Pick.{pick, first}
use Rattle.bits.specs.Row.{Row, big_bits, little}
use Rattle.madi_code.specs.declared.Group.{Group}
use Rattle.madi_code.specs.declared.Group.TheVariants.{Data, Half, Nothing}

-- groups 0000 to 1111 in order become
unfoldable pub group_codes : List ℕ
group_codes =
    0b11110 ∷ 0b01001 ∷ 0b10100 ∷ 0b10101 ∷ 0b01010 ∷ 0b01011 ∷ 0b01110 ∷ 0b01111 ∷ 0b10010 ∷ 0b10011 ∷ 0b10110 ∷ 0b10111 ∷ 0b11010 ∷ 0b11011
    ∷ 0b11100 ∷ 0b11101 ∷ []

unfoldable pub group_code : ℕ → ℕ
unfolding group_codes
group_code d = get_or group_codes d 0

-- the sixteen command symbols in the order of their numbers, two halves of five bits each: JK, which is the default
-- sync, II, TT, TS, IH, TR, SR, SS, HH, HI, HQ, RR, RS, QH, QI, QQ
unfoldable pub command_codes : List ℕ
command_codes =
    0b1100010001 ∷ 0b1111111111 ∷ 0b0110101101 ∷ 0b0110111001 ∷ 0b1111100100 ∷ 0b0110100111 ∷ 0b1100100111 ∷ 0b1100111001
    ∷ 0b0010000100 ∷ 0b0010011111 ∷ 0b0010000000 ∷ 0b0011100111 ∷ 0b0011111001 ∷ 0b0000000100 ∷ 0b0000011111 ∷ 0b0000000000 ∷ []

unfoldable pub command_code : ℕ → ℕ
unfolding command_codes
command_code c = get_or command_codes c 0

-- the ten bits of a command
abbrev pub command_row : ℕ → Row
command_row c = big_bits 10 (command_code c)

-- which command ten bits are; 16 where they are none
unfoldable pub command_of : ℕ → ℕ
command_of v = first (λ c. eqb (command_code c) v) 0 16 (λ c. c) 16

-- five bits are the left or the right half of some command symbol
unfoldable pub is_half : ℕ → Bool
is_half g = first (λ c. eqb (command_code c / 32) g || eqb (command_code c % 32) g) 0 16 (λ c. true) false

-- what a five-bit group means: the four bits that became it, as they stand in a channel's word (the leftmost is the
-- lowest); half of a command symbol; or nothing
unfoldable pub group_of : ℕ → Group
unfolding group_code
group_of g = first (λ d. eqb (group_code d) g) 0 16 (λ d. Data (little (big_bits 4 d))) (pick (is_half g) Half Nothing)

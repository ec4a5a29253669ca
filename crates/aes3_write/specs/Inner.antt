-- Clauses that only inner functions need. Assumes nothing.
use Rattle.std.specs.Prelude.{◌≡◌, ℕ, zero, suc, ◌+◌, ◌-◌, ◌*◌, ◌/◌, ◌%◌, ◌^◌, ◌<◌, Bool, false, List, ◌++◌, get_or}
use Rattle.std.specs.Bool.{xor}
use Rattle.bits.specs.Pick.{pick}
use Rattle.bits.specs.Row.{Row, odd, bit, big_bits}
use Rattle.bits.specs.Listed.{listed}
use Rattle.line.specs.Preamble.{after_level}
use Rattle.line.specs.Biphase.{biphase, biphase_table}
use Rattle.subframe.specs.Body.{slots, body_of}
use Rattle.block.specs.Side.{validity, user, status, columns, column_length}
use Rattle.block.specs.Block.{side_at}

-- the 64 symbols of a body behind the octet m of a preamble, after a level
unfoldable pub opened : ℕ → Bool → ℕ → Row
opened m l body = after_level l (big_bits 8 m ++ biphase false (slots body))

-- 64 symbols that are written for level 0 as a number, after a level
unfoldable pub word_after : Bool → ℕ → ℕ
word_after l w = pick l (2 ^ 64 - 1 - w) w

-- what inverts n symbols after a level, by exclusive or
abbrev pub inverter : ℕ → Bool → ℕ
inverter n l = pick l (2 ^ n - 1) 0

-- the same of the 40 symbols behind the first of three entries, where a, b and c are the levels that the three leave by
-- themselves: behind each entry stands the exclusive or of those up to it
unfoldable pub inverters : Bool → Bool → Bool → ℕ
inverters a b c = inverter 16 a * 2 ^ 24 + (inverter 16 (xor b a) * 2 ^ 8 + inverter 8 (xor c (xor b a)))

unfoldable pub inverters_table : List ℕ
inverters_table = listed 0 8 (λ x. inverters (odd (x / 4)) (odd (x / 2)) (odd x))

-- the table's entry for eight bits, for level 0
abbrev pub entry_for : ℕ → ℕ
entry_for d = get_or biphase_table d 0

-- r holds those of a sample's 24 bits, that of the lowest eight highest
pub record ThreeEntries (code r : ℕ) : Type 0 where
  pub together : r ≡ (entry_for (code % 256) * 65536 + entry_for (code / 256 % 256)) * 65536 + entry_for (code / 65536)
  pub first : entry_for (code % 256) < 65536
  pub second : entry_for (code / 256 % 256) < 65536
  pub third : entry_for (code / 65536) < 65536

-- the body of a sample's 24 bits, and of V, U and C at weights 1, 2 and 4
unfoldable pub body_with : ℕ → ℕ → ℕ
body_with code flags = body_of code (bit 0 flags) (bit 1 flags) (bit 2 flags)

-- V, U and C of subframe i
unfoldable pub flags : List ℕ → ℕ → ℕ
flags side i = side_at side validity i + side_at side user i * 2 + side_at side status i * 4

-- those of n subframes from subframe i on, the first at weight 1, the next at 16
unfoldable pub flags_from : List ℕ → ℕ → ℕ → ℕ
flags_from side i zero = 0
flags_from side i (suc n) = flags side i + 16 * flags_from side (suc i) n

-- the bits of an octet at weights 1, 2^8, 2^16 and so on
unfoldable pub spread : ℕ → ℕ
spread o = bit 0 o + bit 1 o * 2 ^ 8 + bit 2 o * 2 ^ 16 + bit 3 o * 2 ^ 24 + bit 4 o * 2 ^ 32 + bit 5 o * 2 ^ 40 + bit 6 o * 2 ^ 48 + bit 7 o * 2 ^ 56

-- the same of each octet
unfoldable pub spread_table : List ℕ
spread_table = listed 0 256 spread

-- octet j of a column of a channel
unfoldable pub octet_in : List ℕ → ℕ → ℕ → ℕ → ℕ
octet_in side channel column j = get_or side (column_length * (columns * channel + column) + j) 0

-- V, U and C of eight frames of a channel from frame 8 j on, at weights 1, 2 and 4, and each frame at 2^8 times the one
-- before
unfoldable pub eight_flags : List ℕ → ℕ → ℕ → ℕ
eight_flags side channel j =
    spread (octet_in side channel validity j) + spread (octet_in side channel user j) * 2 + spread (octet_in side channel status j) * 4

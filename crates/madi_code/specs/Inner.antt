-- The tables that a caller lends, and what functions give that go by them. Assumes nothing.
use Rattle.std.specs.Prelude.{ℕ, ◌+◌, ◌*◌, ◌/◌, ◌%◌, ◌^◌, ◌<◌, ◌≡◌, List, [], ◌∷◌, eqb, ltb, get_or, Ok}
use Rattle.bits.specs.Pick.{pick, first}
use Rattle.bits.specs.Row.{bits, big_bits, little, big}
use Rattle.bits.specs.Listed.{listed}
use Rattle.madi_code.specs.Groups.{group_code, is_half}
use Rattle.madi_code.specs.Channels.{ChannelBits, channel_of}
use Rattle.madi_code.specs.declared.Fours.{Fours}

-- ---- sent

-- a table of 16 that has, for four bits as they stand in a word, the group that they become
abbrev pub Sends : List ℕ → Type 0
Sends t = (x : ℕ) → x < 16 → get_or t x 0 ≡ group_code (big (bits 4 x))

-- it is this one
unfoldable pub group_table : List ℕ
group_table = listed 0 16 (λ x. group_code (big (bits 4 x)))

-- twenty bits, from what a table of 16 says of the four fours of sixteen bits
unfoldable pub four_groups : List ℕ → ℕ → ℕ
four_groups t w = get_or t (w % 16) 0 * 2 ^ 15 + get_or t (w / 2 ^ 4 % 16) 0 * 2 ^ 10 + get_or t (w / 2 ^ 8 % 16) 0 * 2 ^ 5 + get_or t (w / 2 ^ 12 % 16) 0

-- forty bits, from the two halves of a word
unfoldable pub eight_groups : List ℕ → ℕ → ℕ
eight_groups t w = four_groups t w * 2 ^ 20 + four_groups t (w / 2 ^ 16)

-- ---- received

-- what a five-bit group means as a number: four bits of a word; where it is no data group, 128, which is more than
-- eight fours together, and 129 for half of a command symbol
unfoldable pub meant : ℕ → ℕ
meant g = first (λ d. eqb (group_code d) g) 0 16 (λ d. little (big_bits 4 d)) (pick (is_half g) 129 128)

-- a table of 32 that has the meanings
abbrev pub Means : List ℕ → Type 0
Means t = (g : ℕ) → g < 32 → get_or t g 0 ≡ meant g

-- it is this one
unfoldable pub meaning_table : List ℕ
meaning_table = listed 0 32 meant

-- what a table of 32 says of the four groups of twenty bits, added up as it stands
unfoldable pub four_sum : List ℕ → ℕ → ℕ
four_sum t v = get_or t (v / 2 ^ 15 % 32) 0 + get_or t (v / 2 ^ 10 % 32) 0 + get_or t (v / 2 ^ 5 % 32) 0 + get_or t (v % 32) 0

-- and as the fours of sixteen bits
unfoldable pub four_fours : List ℕ → ℕ → ℕ
four_fours t v = get_or t (v / 2 ^ 15 % 32) 0 + get_or t (v / 2 ^ 10 % 32) 0 * 2 ^ 4 + get_or t (v / 2 ^ 5 % 32) 0 * 2 ^ 8 + get_or t (v % 32) 0 * 2 ^ 12

-- both, whatever the table's octets are
abbrev pub FoursOf : List ℕ → ℕ → Fours → Type 0
FoursOf t v r = (r.sum ≡ four_sum t v) × (r.sum < 2 ^ 10) × (r.word ≡ four_fours t v) × (r.word < 2 ^ 24)

-- the same of the eight groups of forty bits
unfoldable pub eight_sum : List ℕ → ℕ → ℕ
eight_sum t v = four_sum t (v / 2 ^ 20) + four_sum t v

unfoldable pub eight_fours : List ℕ → ℕ → ℕ
eight_fours t v = four_fours t (v / 2 ^ 20) + four_fours t v * 2 ^ 16

-- the word where all are data groups, else 2 ^ 32
unfoldable pub word_by_table : List ℕ → ℕ → ℕ
word_by_table t v = pick (ltb (eight_sum t v) 128) (eight_fours t v) (2 ^ 32)

-- a channel by that word, and else by its groups
unfoldable pub channel_by : List ℕ → ℕ → ChannelBits
channel_by t v = pick (ltb (word_by_table t v) (2 ^ 32)) (Ok (word_by_table t v)) (channel_of (big_bits 40 v))

-- ---- commands received

-- a table of 32 that has a command where its code leads to, its code times 16 and its number in one; at the places that
-- no code leads to it has command 15, which is right there too
unfoldable pub placed_commands : List ℕ
placed_commands =
    0x000F ∷ 0x1B93 ∷ 0x3276 ∷ 0x004D ∷ 0x000F ∷ 0x000F ∷ 0x000F ∷ 0x3E44 ∷ 0x000F ∷ 0x000F ∷ 0x0E7B ∷ 0x09F9 ∷ 0x000F ∷ 0x000F ∷ 0x3110 ∷ 0x000F
    ∷ 0x080A ∷ 0x3397 ∷ 0x1A75 ∷ 0x0848 ∷ 0x000F ∷ 0x000F ∷ 0x000F ∷ 0x1AD2 ∷ 0x000F ∷ 0x0F9C ∷ 0x000F ∷ 0x01FE ∷ 0x000F ∷ 0x000F ∷ 0x000F ∷ 0x3FF1 ∷ []

-- where ten bits lead to
unfoldable pub place_in : ℕ → ℕ
place_in v = v % 2 ^ 10 * 7 / 8 % 32

-- the command that ten bits are by such a table; 16 where they are none
unfoldable pub command_by : List ℕ → ℕ → ℕ
command_by t v = pick (eqb (get_or t (place_in v) 0 / 16) v) (get_or t (place_in v) 0 % 16) 16

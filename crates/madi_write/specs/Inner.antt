-- Clauses of inner functions of the writer. Assumes nothing.
use Rattle.std.specs.Prelude.{ℕ, zero, suc, ◌+◌, ◌-◌, ◌*◌, ◌/◌, ◌%◌, ◌^◌, ◌≤◌, ◌<◌, ◌≡◌, true, List, ◌∷◌, ◌++◌, eqb, ltb, length, get_or, take, drop}
use Rattle.std.specs.Int.Bits.{bit_xor}
use Rattle.bits.specs.Pick.{pick}
use Rattle.bits.specs.Row.{Row, odd, big}
use Rattle.bits.specs.Window.{window}
use Rattle.subframe.specs.Body.{even_body}
use Rattle.line.specs.Nrzi.{levels}
use Rattle.madi_code.specs.Frame.{numbered}
use Rattle.madi_code.specs.Groups.{command_codes, command_code}
use Rattle.madi_code.specs.Channels.{channel_row}
use Rattle.madi_code.specs.Inner.{group_table}
use Rattle.madi_write.specs.declared.Frame.{Frame}
use Rattle.madi_write.specs.Writer.{frame_row, needed, frame_octets}

-- the word of channel b as it is sent
unfoldable pub sent_word : List ℕ → ℕ → ℕ
sent_word words b = pick (ltb b (length words)) (get_or words b 0 + pick (eqb b 0) 3 2) 0

-- k commands of a list from the i-th on as a number
unfoldable pub commands_number : List ℕ → ℕ → ℕ → ℕ
commands_number commands i zero = 0
commands_number commands i (suc k) = commands_number commands i k * 2 ^ 10 + command_code (get_or commands (i + k) 0)

-- the 40 bits of a frame from bit 40 b on as a number: a channel, or four commands
unfoldable pub block_of : ℕ → List ℕ → List ℕ → ℕ → ℕ
block_of channels words commands b =
    pick (ltb b channels) (big (channel_row (sent_word words b))) (commands_number commands (4 * (b - channels)) 4)

-- what a frame that is laid has
pub record Ready (f : Frame) : Type 0 where
  pub at_most : f.channels ≤ 64
  pub most : length f.words.now ≤ f.channels
  pub short : length f.commands.now ≤ 255
  pub named : numbered f.commands.now ≡ true
  -- past the end of the words too
  pub clean : (k : ℕ) → get_or f.words.now k 0 % 4 ≡ 0
  pub sends : f.groups ≡ group_table
  pub codes : f.codes ≡ command_codes

-- y is the number whose digits, each against the one before, are those of x
abbrev pub Levels : ℕ → ℕ → Type 0
Levels x r = (y : ℕ) → y < 2 ^ 64 → bit_xor y (y / 2) ≡ x → r ≡ y

-- after a store of n octets of y from j on, a list that was new up to j, and old from there, is new up to j + n
abbrev pub Stored : ℕ → ℕ → ℕ → List ℕ → List ℕ → Type 0
Stored j y n at_entry at_exit =
    (new old : List ℕ) → j + n ≤ length new → j + n ≤ length old → ((i : ℕ) → i < n → get_or new (j + i) 0 ≡ y / 2 ^ (32 - 8 * i) % 256)
    → at_entry ≡ take j new ++ drop j old → at_exit ≡ take (j + n) new ++ drop (j + n) old

-- 40 bits x after a level are laid as block b, and r is the level that they leave
abbrev pub Laid : ℕ → ℕ → ℕ → ℕ → List ℕ → List ℕ → Type 0
Laid b last x r at_entry at_exit = (y : ℕ) × Levels (last * 2 ^ 40 + x) y × (r ≡ y % 2) × Stored (5 * b) y 5 at_entry at_exit

-- the level before each bit of the frame, from the first on
abbrev pub sent_levels : ℕ → List ℕ → List ℕ → ℕ → Row
sent_levels channels words commands level = odd level ∷ levels (odd level) (frame_row channels words commands)

-- this is the level before block b
abbrev pub LevelAt : ℕ → List ℕ → List ℕ → ℕ → ℕ → ℕ → Type 0
LevelAt channels words commands level last b = last ≡ window (sent_levels channels words commands level) (40 * b) 1

-- a line that was the frame's up to block b₀, wherever it is from, is so up to block b, and `last` is the level there
abbrev pub Passed : ℕ → List ℕ → List ℕ → ℕ → List ℕ → ℕ → List ℕ → ℕ → ℕ → Type 0
Passed channels words commands level line₀ b₀ line last b =
    (length line ≡ length line₀) × LevelAt channels words commands level last b
    × ((old : List ℕ) → needed channels (length commands) ≤ length old
    → line₀ ≡ take (5 * b₀) (frame_octets channels words commands level) ++ drop (5 * b₀) old
    → line ≡ take (5 * b) (frame_octets channels words commands level) ++ drop (5 * b) old)

-- a line that was the frame's up to its last whole block is all of the frame
abbrev pub Ended : ℕ → List ℕ → List ℕ → ℕ → List ℕ → List ℕ → Type 0
Ended channels words commands level line₀ line =
    (old : List ℕ) → needed channels (length commands) ≤ length old
    → line₀ ≡ take (5 * (channels + length commands / 4)) (frame_octets channels words commands level) ++ drop (5 * (channels + length commands / 4)) old
    → line ≡ frame_octets channels words commands level ++ drop (needed channels (length commands)) old

-- the same of a frame that is laid: how many octets it has, the block behind its active channels, the one behind its
-- last whole block
module _ (f : Frame) where
  abbrev pub frame_length : ℕ
  frame_length = needed f.channels (length f.commands.now)

  abbrev pub active : ℕ
  active = length f.words.now

  abbrev pub whole : ℕ
  whole = f.channels + length f.commands.now / 4

  abbrev pub LevelIn : ℕ → ℕ → ℕ → Type 0
  LevelIn level last b = LevelAt f.channels f.words.now f.commands.now level last b

  abbrev pub PassedIn : ℕ → List ℕ → ℕ → List ℕ → ℕ → ℕ → Type 0
  PassedIn level line₀ b₀ line last b = Passed f.channels f.words.now f.commands.now level line₀ b₀ line last b

  abbrev pub EndedIn : ℕ → List ℕ → List ℕ → Type 0
  EndedIn level line₀ line = Ended f.channels f.words.now f.commands.now level line₀ line

-- no word breaks a rule
abbrev pub Sound : List ℕ → Type 0
Sound words = (i : ℕ) → i < length words → (even_body (get_or words i 0) ≡ true) × (get_or words i 0 % 4 ≡ 0)

-- What writing a MADI frame means: the channels as they are sent, the frame's bits, its octets. Assumes nothing.
use Rattle.std.specs.Prelude.{ℕ, ◌+◌, ◌-◌, ◌/◌, ◌%◌, Bool, not, ◌&&◌, List, [], ◌∷◌, ◌++◌, map, eqb, leb, length, get_or, replicate}
use Rattle.bits.specs.Row.{Row, odd}
use Rattle.bits.specs.Pack.{chain, octets}
use Rattle.answer.specs.Answer.{Answer, Answer.accepted}
use Rattle.answer.specs.Demand.{Demand, Demand.asks, Demand.finds_none, provided}
use Rattle.subframe.specs.Body.{even_body}
use Rattle.line.specs.Nrzi.{levels}
use Rattle.madi_code.specs.Frame.{counted, boundary, numbered, synced}
use Rattle.madi_code.specs.Groups.{command_row}
use Rattle.madi_code.specs.Channels.{channel_row}

-- ---- the frame

-- the active channels: bit 1 set on each, bit 0 on channel 0 only
unfoldable pub marked : List ℕ → List ℕ
marked [] = []
marked (w ∷ ws) = (w + 3) ∷ map (λ v. v + 2) ws

-- all channels: the active ones from 0 without a gap, then the inactive ones, all zero
unfoldable pub channel_words : ℕ → List ℕ → List ℕ
channel_words channels words = marked words ++ replicate (channels - length words) 0

-- the bits of the frame: the channels, then the commands in their order
unfoldable pub frame_row : ℕ → List ℕ → List ℕ → Row
frame_row channels words commands = chain channel_row (channel_words channels words) ++ chain command_row commands

-- the octets needed for so many commands
abbrev pub needed : ℕ → ℕ → ℕ
needed channels n = (boundary channels n + 7) / 8

-- the frame on the line, after a level
unfoldable pub frame_octets : ℕ → List ℕ → List ℕ → ℕ → List ℕ
frame_octets channels words commands level =
    octets (needed channels (length commands)) (levels (odd level) (frame_row channels words commands))

-- ---- the answer

-- a list of commands: 1 to 255 of them, none above 15, at least one of them 0
unfoldable pub is_list : List ℕ → Bool
is_list commands = (leb 1 (length commands) && leb (length commands) 255) && (numbered commands && synced commands)

-- 56 or 64 channels, at least one word and that many at most, a list of commands, a level (2); at least the octets
-- needed (1)
abbrev pub argument_demands : ℕ → ℕ → List ℕ → ℕ → ℕ → List Demand
argument_demands channels count commands level room =
    asks 2 0 (counted channels) ∷ asks 2 0 (leb 1 count) ∷ asks 2 0 (leb count channels) ∷ asks 2 0 (is_list commands)
    ∷ asks 2 0 (leb level 1) ∷ asks 1 0 (leb (needed channels (length commands)) room) ∷ []

-- parity is even (9); bits 0 and 1 are zero (12)
abbrev pub channel_word_demands : List ℕ → List Demand
channel_word_demands words =
    finds_none 9 (λ i. not (even_body (get_or words i 0))) 0 (length words) ∷ finds_none 12 (λ i. not (eqb (get_or words i 0 % 4) 0)) 0 (length words) ∷ []

abbrev pub write_demands : ℕ → List ℕ → List ℕ → ℕ → ℕ → List Demand
write_demands channels words commands level room = argument_demands channels (length words) commands level room ++ channel_word_demands words

-- with room for so many octets: the octets of the frame
unfoldable pub frame_written : ℕ → List ℕ → List ℕ → ℕ → ℕ → Answer (List ℕ)
frame_written channels words commands level room =
    provided (write_demands channels words commands level room) (accepted (frame_octets channels words commands level))

-- What reading a MADI frame means: from the bits that a line carries, boundary by boundary. Assumes nothing.
use Rattle.std.specs.Prelude.{ℕ, zero, suc, ◌+◌, ◌*◌, ◌-◌, ◌/◌, Bool, ◌&&◌, List, [], ◌∷◌, ◌++◌}
use Rattle.std.specs.Prelude.{eqb, ltb, leb, length, replicate, Ok, Err, Result}
use Rattle.bits.specs.Pick.{pick}
use Rattle.bits.specs.Row.{Row, odd, bit}
use Rattle.bits.specs.Window.{part, window}
use Rattle.bits.specs.Pack.{symbols}
use Rattle.answer.specs.Answer.{Answer, Answer.accepted, Answer.refused, mapped}
use Rattle.answer.specs.Said.{said}
use Rattle.answer.specs.declared.Refusal.{Refusal}
use Rattle.answer.specs.Demand.{Demand, Demand.asks, provided}
use Rattle.subframe.specs.Body.{even_body}
use Rattle.line.specs.Nrzi.{changes}
use Rattle.madi_code.specs.Frame.{counted, boundary, synced}
pub use Rattle.madi_code.specs.Frame.{cleared}
use Rattle.madi_code.specs.Groups.{command_of}
use Rattle.madi_code.specs.Channels.{ChannelBits, channel_of}
use Rattle.madi_read.specs.declared.Piece.{Piece}
use Rattle.madi_read.specs.declared.Piece.TheVariants.{End, Command, Channel}
use Rattle.madi_read.specs.declared.Counts.{Counts}

-- the bits that a line of so many bits carries, after a level
unfoldable pub carried : ℕ → ℕ → List ℕ → Row
carried level bits line = changes (odd level) (part (symbols line) 0 bits)

-- ---- a frame, as far as it was read

-- how many channels came, how many of them are active, the commands that came in their order, and the channels' words
pub record Frame : Type 0 where
  pub channels : ℕ
  pub active : ℕ
  pub commands : List ℕ
  pub words : List ℕ

abbrev pub at_start : Frame
at_start = record { channels = 0; active = 0; commands = []; words = [] }

-- the boundary at which reading goes on
abbrev pub place_of : Frame → ℕ
place_of f = boundary f.channels (length f.commands)

-- a command more
abbrev pub with_command : ℕ → Frame → Frame
with_command c f = record { channels = f.channels; active = f.active; commands = f.commands ++ (c ∷ []); words = f.words }

-- a channel more
abbrev pub with_channel : ℕ → Frame → Frame
with_channel w f =
    record { channels = f.channels + 1; active = f.active + bit 1 w; commands = f.commands; words = f.words ++ (cleared w ∷ []) }

-- ---- a channel in its place

-- bit 0 is set on channel 0 only
abbrev pub first_right : ℕ → ℕ → Bool
first_right n w = eqb (bit 0 w) (pick (eqb n 0) 1 0)

-- bit 1 is set on active channels, which run from 0 without a gap; an inactive channel is all zero
abbrev pub active_right : ℕ → ℕ → ℕ → Bool
active_right n active w = pick (eqb (bit 1 w) 1) (eqb n active) (eqb w 0)

-- the word of channel n after so many active ones: 12, then 9
abbrev pub channel_piece : ℕ → ℕ → ℕ → Answer Piece
channel_piece n active w =
    pick (first_right n w && active_right n active w) (pick (even_body w) (accepted (Channel w)) (refused 9 n)) (refused 12 n)

-- its 40 bits at a boundary: 11, then 12, then 9
abbrev pub channel_at : ℕ → ℕ → ℕ → ChannelBits → Answer Piece
channel_at at n active (Err broken) = refused 11 (at + 5 * broken.group)
channel_at at n active (Ok w) = channel_piece n active w

-- ---- a boundary

-- the next ten bits are a command
abbrev pub is_command : Row → ℕ → Bool
is_command r at = leb (at + 10) (length r) && ltb (command_of (window r at 10)) 16

-- an end with channels missing or no command 0: 10
abbrev pub end_of : ℕ → ℕ → List ℕ → ℕ → Answer Piece
end_of channels n commands at = pick (eqb n channels && synced commands) (accepted End) (refused 10 at)

-- a command after s of them; a 256th: 10
abbrev pub command_piece : ℕ → ℕ → ℕ → Answer Piece
command_piece c s at = pick (ltb s 255) (accepted (Command c)) (refused 10 at)

-- what stands at the boundary: the end; a command if the next ten bits are one; otherwise 40 bits of channel, where
-- fewer than 40 bits left or a channel too many is 10
unfoldable pub piece_at : Row → ℕ → Frame → Answer Piece
piece_at r channels f =
    pick (eqb (place_of f) (length r)) (end_of channels f.channels f.commands (place_of f))
    (pick (is_command r (place_of f)) (command_piece (command_of (window r (place_of f) 10)) (length f.commands) (place_of f))
    (pick (ltb (length r) (place_of f + 40)) (refused 10 (place_of f))
    (pick (eqb f.channels channels) (refused 10 (place_of f))
    (channel_at (place_of f) f.channels f.active (channel_of (part r (place_of f) 40))))))

-- ---- a frame

-- how reading goes on after a piece
abbrev pub onward : (Frame → Answer Frame) → Frame → Answer Piece → Answer Frame
onward on f (accepted End) = accepted f
onward on f (accepted (Command c)) = on (with_command c f)
onward on f (accepted (Channel w)) = on (with_channel w f)
onward on f (refused number place) = refused number place

-- reading on from a boundary, at most k pieces
unfoldable pub read_on : Row → ℕ → ℕ → Frame → Answer Frame
read_on r channels zero f = refused 10 (place_of f)
read_on r channels (suc k) f = onward (read_on r channels k) f (piece_at r channels f)

-- a frame has at most its channels and 255 commands, and then its end
unfoldable pub row_read : Row → ℕ → Answer Frame
row_read r channels = read_on r channels (channels + 256) at_start

-- the unused bits of the last octet are 0
abbrev pub spare_zero : ℕ → List ℕ → Bool
spare_zero bits line = eqb (window (symbols line) bits (length line * 8 - bits)) 0

-- 56 or 64 channels, a level, at most 5,110 bits (2); the exact numbers of octets and of words, a list of 255 commands
-- (1); spare bits zero (2)
abbrev pub read_demands : ℕ → ℕ → ℕ → List ℕ → ℕ → ℕ → List Demand
read_demands channels level bits line room places =
    asks 2 0 (counted channels) ∷ asks 2 0 (leb level 1) ∷ asks 2 0 (leb bits 5110) ∷ asks 1 0 (eqb (length line) ((bits + 7) / 8))
    ∷ asks 1 0 (eqb room channels) ∷ asks 1 0 (eqb places 255) ∷ asks 2 0 (spare_zero bits line) ∷ []

-- the reader, with a buffer for so many words and a list with so many places
unfoldable pub frame_read : ℕ → ℕ → ℕ → List ℕ → ℕ → ℕ → Answer Frame
frame_read channels level bits line room places =
    provided (read_demands channels level bits line room places) (row_read (carried level bits line) channels)

-- ---- what the caller gets

-- active count and number of commands
abbrev pub counts_of : Frame → ℕ × ℕ
counts_of f = (f.active, length f.commands)

-- a list of 255: commands, and zeros after them
unfoldable pub list_of : List ℕ → List ℕ
list_of commands = commands ++ replicate (255 - length commands) 0

-- the frame's commands in their order
abbrev pub commands_of : Frame → List ℕ
commands_of f = list_of f.commands

-- every word of the frame
abbrev pub words_of : Frame → List ℕ
words_of f = f.words

-- what a result of `Counts` says
abbrev pub frame_said : Result Counts Refusal → Answer (ℕ × ℕ)
frame_said r = mapped (λ c. (c.active, c.commands)) (said r)

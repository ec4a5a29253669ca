-- Clauses of inner functions of the reader. Assumes nothing.
use Rattle.std.specs.Prelude.{ℕ, ◌+◌, ◌-◌, ◌%◌, ◌≡◌, ◌≤◌, true, List, eqb, length, take, Ok}
use Rattle.bits.specs.Pick.{pick}
use Rattle.bits.specs.Row.{Row}
use Rattle.bits.specs.Window.{part, window}
use Rattle.answer.specs.Answer.{Answer, Answer.accepted, Answer.refused}
use Rattle.subframe.specs.Body.{even_body}
use Rattle.madi_code.specs.Frame.{boundary}
use Rattle.madi_code.specs.Groups.{command_of}
use Rattle.madi_code.specs.Channels.{ChannelBits, channel_of}
use Rattle.madi_read.specs.Reader.{Frame, carried, is_command, channel_at, command_piece, read_on, list_of}
use Rattle.madi_read.specs.declared.Piece.{Piece}
use Rattle.madi_read.specs.declared.SoFar.{SoFar}
use Rattle.madi_read.specs.declared.line_bits.Source.{Source}

-- a frame so far: n channels, so many of them active, the commands, and the words
abbrev pub sofar : ℕ → ℕ → List ℕ → List ℕ → Frame
sofar n active commands words = record { channels = n; active = active; commands = commands; words = words }

-- 40 bits at a boundary after n channels, so many of them active: one channel more is due, else 10
abbrev pub due_piece : ℕ → ℕ → ℕ → ChannelBits → ℕ → Answer Piece
due_piece channels n active c at = pick (eqb n channels) (refused 10 at) (channel_at at n active c)

-- what stands at a boundary with fewer than 40 bits after it
abbrev pub short_piece : Row → ℕ → ℕ → Answer Piece
short_piece r s at = pick (is_command r at) (command_piece (command_of (window r at 10)) s at) (refused 10 at)

-- that of the reader, and the bits that its source carries
abbrev pub frame_of : SoFar → Frame
frame_of f = sofar f.channels f.active (take f.commands f.codes) (take f.channels f.words)

abbrev pub row_of : Source → Row
row_of s = carried s.level s.bits s.line.now

-- s commands stand in a list of 255, and zeros after them
abbrev pub Listed : ℕ → List ℕ → Type 0
Listed s codes = (length codes ≡ 255) × (codes ≡ list_of (take s codes))

-- the words of an accepted frame stand in front in one list, its commands are another; of a refused one nothing is said
abbrev pub Held : ℕ → Answer Frame → List ℕ → List ℕ → Type 0
Held channels (accepted f) held codes = (take channels held ≡ f.words) × (codes ≡ list_of f.commands)
Held channels (refused number place) held codes = Unit {0}

-- the channel at a place is active, not the first of its frame, and even
abbrev pub Plain : Row → ℕ → ℕ → Type 0
Plain r at w = (channel_of (part r at 40) ≡ Ok w) × (w % 4 ≡ 2) × (even_body w ≡ true)

-- reading on from g, after some more pieces, gives what reading on from f gives
abbrev pub Reached : Row → ℕ → Frame → Frame → Type 0
Reached r channels f g =
    read_on r channels (channels + 256 - (g.channels + length g.commands)) g
    ≡ read_on r channels (channels + 256 - (f.channels + length f.commands)) f

-- what was read so far stands within the source, and its list has its commands
abbrev pub Fits : Source → SoFar → Type 0
Fits s f =
    (f.channels ≤ s.channels) × (f.active ≤ f.channels) × (f.commands ≤ 255) × (boundary f.channels f.commands ≤ s.bits)
    × (length f.words ≡ 64) × Listed f.commands f.codes

-- What a frame is made of: units, each a channel or a command, wherever the commands stand. Assumes nothing.
use Rattle.std.specs.Prelude.{ℕ, ◌+◌, ◌*◌, ◌-◌, ◌^◌, ◌≤◌, ◌<◌, ◌≡◌, true, false, List, [], ◌∷◌, ◌++◌, length, replicate}
use Rattle.bits.specs.Row.{Row, bit}
use Rattle.subframe.specs.Body.{even_body}
use Rattle.madi_code.specs.Frame.{numbered, synced}
use Rattle.madi_code.specs.Groups.{command_row}
use Rattle.madi_code.specs.Channels.{channel_row}
use Rattle.madi_read.specs.Reader.{Frame, with_command, with_channel, first_right, active_right, is_command}

-- a channel with its word, or a command with its number
pub data Part : Type 0 where
  channel : (word : ℕ) → Part
  command : (number : ℕ) → Part

-- the bits of units, one after the other
unfoldable pub units_row : List Part → Row
units_row [] = []
units_row (Part.channel w ∷ us) = channel_row w ++ units_row us
units_row (Part.command c ∷ us) = command_row c ++ units_row us

-- the words of their channels, in order
unfoldable pub channels_in : List Part → List ℕ
channels_in [] = []
channels_in (Part.channel w ∷ us) = w ∷ channels_in us
channels_in (Part.command c ∷ us) = channels_in us

-- the numbers of their commands, in order
unfoldable pub commands_in : List Part → List ℕ
commands_in [] = []
commands_in (Part.channel w ∷ us) = commands_in us
commands_in (Part.command c ∷ us) = c ∷ commands_in us

-- a frame with more units
unfoldable pub with_units : List Part → Frame → Frame
with_units [] f = f
with_units (Part.channel w ∷ us) f = with_units us (with_channel w f)
with_units (Part.command c ∷ us) f = with_units us (with_command c f)

-- words right in their places, from channel n on after so many active ones
unfoldable pub Placed : ℕ → ℕ → List ℕ → Type 0
Placed n active [] = Unit {0}
Placed n active (w ∷ ws) =
    (first_right n w ≡ true) × (active_right n active w ≡ true) × (even_body w ≡ true) × (w < 2 ^ 32) × Placed (n + 1) (active + bit 1 w) ws

-- units that make a frame: all channels, each right in its place, and at most 255 commands, at least one of them 0
pub record Lawful (channels : ℕ) (us : List Part) : Type 0 where
  pub all : length (channels_in us) ≡ channels
  pub placed : Placed 0 0 (channels_in us)
  pub few : length (commands_in us) ≤ 255
  pub named : numbered (commands_in us) ≡ true
  pub with-sync : synced (commands_in us) ≡ true

-- all commands come last: none stands at a boundary before the last channel
abbrev pub CommandsLast : ℕ → Row → Type 0
CommandsLast channels r = (n : ℕ) → n < channels → is_command r (40 * n) ≡ false

-- the words of all channels: those that are given, and zeros for the inactive ones
unfoldable pub padded : ℕ → List ℕ → List ℕ
padded channels words = words ++ replicate (channels - length words) 0

-- A channel: 32 bits, bit k of weight 2 ^ k in its word, sent as eight five-bit groups. Assumes nothing.
use Rattle.std.specs.Prelude.{ℕ, zero, suc, ◌+◌, ◌*◌, ◌^◌, Ok, Err, Result}
use Rattle.bits.specs.Row.{Row, bits, big_bits, big}
use Rattle.bits.specs.Window.{window}
use Rattle.bits.specs.Pack.{chain, pack}
use Rattle.madi_code.specs.Groups.{group_code, group_of}
use Rattle.madi_code.specs.declared.Group.{Group}
use Rattle.madi_code.specs.declared.Group.TheVariants.{Data, Half, Nothing}
use Rattle.madi_code.specs.declared.Broken.{Broken}

-- ---- sent

-- the 40 bits of a channel: bits 0 to 3 of its word are the first group, bit 0 leftmost
unfoldable pub channel_row : ℕ → Row
channel_row w = chain (λ d. big_bits 5 (group_code d)) (pack big 4 8 (bits 32 w))

-- ---- received

-- what 40 bits are as a channel: its word, or which group in order is the first that is no data group
abbrev pub ChannelBits : Type 0
ChannelBits = Result ℕ Broken

abbrev pub broken : ℕ → ChannelBits
broken g = Err (record { group = g })

-- a data group goes on, any other stops
abbrev pub on_data : Group → (ℕ → ChannelBits) → ChannelBits → ChannelBits
on_data (Data x) on stop = on x
on_data Half on stop = stop
on_data Nothing on stop = stop

-- the groups from g on, n of them, with the bits of the groups before them in w
unfoldable pub channel_from : Row → ℕ → ℕ → ℕ → ChannelBits
channel_from r zero g w = Ok w
channel_from r (suc n) g w = on_data (group_of (window r (5 * g) 5)) (λ x. channel_from r n (g + 1) (w + x * 2 ^ (4 * g))) (broken g)

-- the channel of 40 bits
unfoldable pub channel_of : Row → ChannelBits
unfolding channel_from
channel_of r = channel_from r 8 0 0

-- What bytes 0 to 2 of channel status mean: the tables of BS.647-3, part 3, 3.3.1 to 3.3.3, row by row. A state is
-- written as there, its highest bit at the left; the lowest is the one that is sent first. Assumes nothing.
use Rattle.std.specs.Prelude.{ℕ, ◌/◌, ◌%◌, ◌^◌, List, [], ◌∷◌, eqb}
use Rattle.bits.specs.Pick.{pick}
use Rattle.status.specs.declared.Emphasis.{Emphasis}
use Rattle.status.specs.declared.Emphasis.TheVariants as emphasis
use Rattle.status.specs.declared.Lock.{Lock}
use Rattle.status.specs.declared.Lock.TheVariants as lock
use Rattle.status.specs.declared.Rate.{Rate}
use Rattle.status.specs.declared.Rate.TheVariants as rate
use Rattle.status.specs.declared.Mode.{Mode}
use Rattle.status.specs.declared.Mode.TheVariants as mode
use Rattle.status.specs.declared.User.{User}
use Rattle.status.specs.declared.User.TheVariants as user
use Rattle.status.specs.declared.Auxiliary.{Auxiliary}
use Rattle.status.specs.declared.Auxiliary.TheVariants as auxiliary
use Rattle.status.specs.declared.WordLength.{WordLength}
use Rattle.status.specs.declared.WordLength.TheVariants as word
use Rattle.status.specs.declared.Alignment.{Alignment}
use Rattle.status.specs.declared.Alignment.TheVariants as alignment
use Rattle.status.specs.declared.Description.{Description}
use Rattle.status.specs.declared.Audio.TheVariants.{LinearPcm, OtherPurpose}
use Rattle.status.specs.declared.Use.{Use}
use Rattle.status.specs.declared.Use.TheVariants.{Consumer, Professional}

-- the n bits of an octet from bit k on
abbrev pub field : ℕ → ℕ → ℕ → ℕ
field k n octet = octet / 2 ^ k % 2 ^ n

-- the meaning that a table has for a state, else that of all other states. Where a table has a row for every state of
-- its field, the meaning of all others is given to no state.
unfoldable pub in_table : {A : Type 0} → List (ℕ × A) → A → ℕ → A
in_table [] other x = other
in_table (row ∷ rows) other x = pick (eqb x row.0) row.1 (in_table rows other x)

-- ---- byte 0

-- bits 4 3 2
unfoldable pub emphasis_of : ℕ → Emphasis
emphasis_of x =
    in_table
    ((0b000, emphasis.NotIndicated)
    ∷ (0b001, emphasis.NoEmphasis)
    ∷ (0b011, emphasis.Micros50)
    ∷ (0b111, emphasis.J17)
    ∷ [])
    (emphasis.Reserved x)
    x

-- bit 5
unfoldable pub lock_of : ℕ → Lock
lock_of x = in_table ((0b0, lock.NotIndicated) ∷ (0b1, lock.Unlocked) ∷ []) lock.NotIndicated x

-- bits 7 6
unfoldable pub rate_of : ℕ → Rate
rate_of x =
    in_table
    ((0b00, rate.NotIndicated) ∷ (0b10, rate.Hz48000) ∷ (0b01, rate.Hz44100) ∷ (0b11, rate.Hz32000) ∷ [])
    rate.NotIndicated
    x

-- ---- byte 1

-- bits 3 2 1 0
unfoldable pub mode_of : ℕ → Mode
mode_of x =
    in_table
    ((0b0000, mode.NotIndicated)
    ∷ (0b1000, mode.TwoChannel)
    ∷ (0b0100, mode.SingleChannel)
    ∷ (0b1100, mode.PrimarySecondary)
    ∷ (0b0010, mode.Stereophonic)
    ∷ (0b1010, mode.UserDefined1010)
    ∷ (0b0110, mode.UserDefined0110)
    ∷ (0b1110, mode.DoubleRate)
    ∷ (0b0001, mode.DoubleRateLeft)
    ∷ (0b1001, mode.DoubleRateRight)
    ∷ (0b1111, mode.Multichannel)
    ∷ [])
    (mode.Reserved x)
    x

-- bits 7 6 5 4
unfoldable pub user_of : ℕ → User
user_of x =
    in_table
    ((0b0000, user.NotIndicated)
    ∷ (0b1000, user.Block192)
    ∷ (0b0100, user.Aes18)
    ∷ (0b1100, user.UserDefined)
    ∷ (0b0010, user.General)
    ∷ (0b1010, user.Aes52)
    ∷ (0b0110, user.Iec62537)
    ∷ [])
    (user.Reserved x)
    x

-- ---- byte 2

-- bits 2 1 0
unfoldable pub auxiliary_of : ℕ → Auxiliary
auxiliary_of x =
    in_table
    ((0b000, auxiliary.NotDefined)
    ∷ (0b100, auxiliary.MainAudio)
    ∷ (0b010, auxiliary.Coordination)
    ∷ (0b110, auxiliary.UserDefined)
    ∷ [])
    (auxiliary.Reserved x)
    x

-- bits 5 4 3, where the maximum is 24 bits
unfoldable pub word_length_up_to24 : ℕ → WordLength
word_length_up_to24 x =
    in_table
    ((0b000, word.NotIndicated)
    ∷ (0b100, word.Bits 23)
    ∷ (0b010, word.Bits 22)
    ∷ (0b110, word.Bits 21)
    ∷ (0b001, word.Bits 20)
    ∷ (0b101, word.Bits 24)
    ∷ [])
    (word.Reserved x)
    x

-- the same bits, where the maximum is 20 bits
unfoldable pub word_length_up_to20 : ℕ → WordLength
word_length_up_to20 x =
    in_table
    ((0b000, word.NotIndicated)
    ∷ (0b100, word.Bits 19)
    ∷ (0b010, word.Bits 18)
    ∷ (0b110, word.Bits 17)
    ∷ (0b001, word.Bits 16)
    ∷ (0b101, word.Bits 20)
    ∷ [])
    (word.Reserved x)
    x

-- the maximum is by the use of the auxiliary bits; under a reserved or user-defined use, reserved
unfoldable pub word_length_of : Auxiliary → ℕ → WordLength
word_length_of auxiliary.NotDefined x = word_length_up_to20 x
word_length_of auxiliary.MainAudio x = word_length_up_to24 x
word_length_of auxiliary.Coordination x = word_length_up_to20 x
word_length_of auxiliary.UserDefined x = word.Reserved x
word_length_of (auxiliary.Reserved y) x = word.Reserved x

-- bits 7 6
unfoldable pub alignment_of : ℕ → Alignment
alignment_of x =
    in_table
    ((0b00, alignment.NotIndicated)
    ∷ (0b10, alignment.Rp155)
    ∷ (0b01, alignment.R68)
    ∷ (0b11, alignment.Reserved 0b11)
    ∷ [])
    alignment.NotIndicated
    x

-- ---- the three bytes

unfoldable pub described_by : ℕ → ℕ → ℕ → Description
described_by byte0 byte1 byte2 =
    record {
      emphasis = emphasis_of (field 2 3 byte0);
      lock = lock_of (field 5 1 byte0);
      rate = rate_of (field 6 2 byte0);
      mode = mode_of (field 0 4 byte1);
      user = user_of (field 4 4 byte1);
      auxiliary = auxiliary_of (field 0 3 byte2);
      word_length = word_length_of (auxiliary_of (field 0 3 byte2)) (field 3 3 byte2);
      alignment = alignment_of (field 6 2 byte2);
    }

-- bit 0 of byte 0 is the use: consumer use has nothing inside; bit 1 says whether a sample word is a linear-PCM sample
unfoldable pub meaning_of : ℕ → ℕ → ℕ → Use
meaning_of byte0 byte1 byte2 =
    pick (eqb (field 0 1 byte0) 0)
    Consumer
    (Professional
    (pick (eqb (field 1 1 byte0) 0)
    (LinearPcm (described_by byte0 byte1 byte2))
    (OtherPurpose (described_by byte0 byte1 byte2))))

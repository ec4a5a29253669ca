-- The meaning of bytes 0 to 2 in numbers, for a caller that has no enums. The states that a table names count from 0,
-- in the order of its rows; a word length is its number of bits, and 0 where none is indicated. A reserved state is
-- 255, with its bits in the field beside, which is 0 otherwise. Assumes nothing.
use Rattle.std.specs.Prelude.{ℕ}
use Rattle.status.specs.declared.Emphasis.{Emphasis}
use Rattle.status.specs.declared.Emphasis.TheVariants as emphasis
use Rattle.status.specs.declared.Lock.{Lock}
use Rattle.status.specs.declared.Lock.TheVariants as lock
use Rattle.status.specs.declared.Rate.{Rate}
use Rattle.status.specs.declared.Rate.TheVariants as rate
use Rattle.status.specs.declared.Mode.{Mode}
use Rattle.status.specs.declared.Mode.TheVariants as mode
use Rattle.status.specs.declared.User.{User}
use Rattle.status.specs.declared.User.TheVariants as user
use Rattle.status.specs.declared.Auxiliary.{Auxiliary}
use Rattle.status.specs.declared.Auxiliary.TheVariants as auxiliary
use Rattle.status.specs.declared.WordLength.{WordLength}
use Rattle.status.specs.declared.WordLength.TheVariants as word
use Rattle.status.specs.declared.Alignment.{Alignment}
use Rattle.status.specs.declared.Alignment.TheVariants as alignment
use Rattle.status.specs.declared.Description.{Description}
use Rattle.status.specs.declared.Audio.TheVariants.{LinearPcm, OtherPurpose}
use Rattle.status.specs.declared.Use.{Use}
use Rattle.status.specs.declared.Use.TheVariants.{Consumer, Professional}
use Rattle.status.specs.declared.StateNumber.{StateNumber}
use Rattle.status.specs.declared.MeaningNumbers.{MeaningNumbers}

-- a state that its table names, and a reserved one
abbrev pub named : ℕ → StateNumber
named n = record { state = n; bits = 0 }

abbrev pub reserved : ℕ → StateNumber
reserved x = record { state = 255; bits = x }

abbrev pub emphasis_number : Emphasis → StateNumber
emphasis_number emphasis.NotIndicated = named 0
emphasis_number emphasis.NoEmphasis = named 1
emphasis_number emphasis.Micros50 = named 2
emphasis_number emphasis.J17 = named 3
emphasis_number (emphasis.Reserved x) = reserved x

abbrev pub lock_number : Lock → ℕ
lock_number lock.NotIndicated = 0
lock_number lock.Unlocked = 1

abbrev pub rate_number : Rate → ℕ
rate_number rate.NotIndicated = 0
rate_number rate.Hz48000 = 1
rate_number rate.Hz44100 = 2
rate_number rate.Hz32000 = 3

abbrev pub mode_number : Mode → StateNumber
mode_number mode.NotIndicated = named 0
mode_number mode.TwoChannel = named 1
mode_number mode.SingleChannel = named 2
mode_number mode.PrimarySecondary = named 3
mode_number mode.Stereophonic = named 4
mode_number mode.UserDefined1010 = named 5
mode_number mode.UserDefined0110 = named 6
mode_number mode.DoubleRate = named 7
mode_number mode.DoubleRateLeft = named 8
mode_number mode.DoubleRateRight = named 9
mode_number mode.Multichannel = named 10
mode_number (mode.Reserved x) = reserved x

abbrev pub user_number : User → StateNumber
user_number user.NotIndicated = named 0
user_number user.Block192 = named 1
user_number user.Aes18 = named 2
user_number user.UserDefined = named 3
user_number user.General = named 4
user_number user.Aes52 = named 5
user_number user.Iec62537 = named 6
user_number (user.Reserved x) = reserved x

abbrev pub auxiliary_number : Auxiliary → StateNumber
auxiliary_number auxiliary.NotDefined = named 0
auxiliary_number auxiliary.MainAudio = named 1
auxiliary_number auxiliary.Coordination = named 2
auxiliary_number auxiliary.UserDefined = named 3
auxiliary_number (auxiliary.Reserved x) = reserved x

abbrev pub word_length_number : WordLength → StateNumber
word_length_number word.NotIndicated = named 0
word_length_number (word.Bits n) = named n
word_length_number (word.Reserved x) = reserved x

abbrev pub alignment_number : Alignment → StateNumber
alignment_number alignment.NotIndicated = named 0
alignment_number alignment.Rp155 = named 1
alignment_number alignment.R68 = named 2
alignment_number (alignment.Reserved x) = reserved x

-- ---- all of it

unfoldable pub numbers_by : ℕ → Description → MeaningNumbers
numbers_by purpose d =
    record {
      usage = 1;
      audio = purpose;
      emphasis = (emphasis_number d.emphasis).state;
      emphasis_bits = (emphasis_number d.emphasis).bits;
      lock = lock_number d.lock;
      rate = rate_number d.rate;
      mode = (mode_number d.mode).state;
      mode_bits = (mode_number d.mode).bits;
      user = (user_number d.user).state;
      user_bits = (user_number d.user).bits;
      auxiliary = (auxiliary_number d.auxiliary).state;
      auxiliary_bits = (auxiliary_number d.auxiliary).bits;
      word_length = (word_length_number d.word_length).state;
      word_length_bits = (word_length_number d.word_length).bits;
      alignment = (alignment_number d.alignment).state;
      alignment_bits = (alignment_number d.alignment).bits;
    }

unfoldable pub consumer_numbers : MeaningNumbers
consumer_numbers =
    record {
      usage = 0;
      audio = 0;
      emphasis = 0;
      emphasis_bits = 0;
      lock = 0;
      rate = 0;
      mode = 0;
      mode_bits = 0;
      user = 0;
      user_bits = 0;
      auxiliary = 0;
      auxiliary_bits = 0;
      word_length = 0;
      word_length_bits = 0;
      alignment = 0;
      alignment_bits = 0;
    }

-- consumer use is 0, and so is all the rest of it; professional use is 1; linear PCM is 0, another purpose 1
unfoldable pub numbers_of : Use → MeaningNumbers
numbers_of Consumer = consumer_numbers
numbers_of (Professional (LinearPcm d)) = numbers_by 0 d
numbers_of (Professional (OtherPurpose d)) = numbers_by 1 d

-- A declared word length is binding: whether a sample has a 1 below the length that its channel's status declares, by
-- the meaning of status. Assumes nothing.
use Rattle.std.specs.Prelude.{ℕ, ◌-◌, ◌/◌, ◌%◌, ◌^◌, Bool, false, not, eqb}
use Rattle.status.specs.declared.Auxiliary.{Auxiliary}
use Rattle.status.specs.declared.Auxiliary.TheVariants as auxiliary
use Rattle.status.specs.declared.WordLength.{WordLength}
use Rattle.status.specs.declared.WordLength.TheVariants as word
use Rattle.status.specs.declared.Audio.TheVariants.{LinearPcm, OtherPurpose}
use Rattle.status.specs.declared.Use.{Use}
use Rattle.status.specs.declared.Use.TheVariants.{Consumer, Professional}

-- a word of so many bits has a 1 below the declared length; one that is not declared, or reserved, binds nothing
unfoldable pub one_below : WordLength → ℕ → ℕ → Bool
one_below word.NotIndicated width x = false
one_below (word.Bits n) width x = not (eqb (x % 2 ^ (width - n)) 0)
one_below (word.Reserved y) width x = false

-- with 24-bit use the word is all 24 bits of the sample; with 20-bit use it is the 20 in slots 8 to 27, and the four in
-- slots 4 to 7 are free; a user-defined or reserved use binds nothing
unfoldable pub busy_with : Auxiliary → WordLength → ℕ → Bool
busy_with auxiliary.MainAudio length x = one_below length 24 x
busy_with auxiliary.NotDefined length x = one_below length 20 (x / 2 ^ 4)
busy_with auxiliary.Coordination length x = one_below length 20 (x / 2 ^ 4)
busy_with auxiliary.UserDefined length x = false
busy_with (auxiliary.Reserved y) length x = false

-- the 24 bits of a sample under a meaning of status; audio for another purpose is not bound, nor is consumer use
unfoldable pub busy_under : Use → ℕ → Bool
busy_under Consumer x = false
busy_under (Professional (LinearPcm d)) x = busy_with d.auxiliary d.word_length x
busy_under (Professional (OtherPurpose d)) x = false

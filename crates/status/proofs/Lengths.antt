-- Where byte 2 bits 5, 4, 3 are 000 no word length is declared, whatever else the status says. Assumes nothing.
use mathlib.Core.Path.{◌≡◌, refl, subst⁻¹}
use mathlib.Core.Logic.{◌⊎◌, inl, inr}
use Prim.Native.Nat.{ℕ}
use lib.Dec.{eqb}
use Rattle.bits.specs.Pick.{pick}
use Rattle.bits.proofs.Tests.{pick-cases}
use Rattle.status.specs.Meaning.{field, in_table, auxiliary_of, word_length_up_to20, word_length_up_to24, word_length_of, described_by, meaning_of}
use Rattle.status.specs.declared.Auxiliary.{Auxiliary}
use Rattle.status.specs.declared.Auxiliary.TheVariants as auxiliary
use Rattle.status.specs.declared.WordLength.{WordLength}
use Rattle.status.specs.declared.WordLength.TheVariants as word
use Rattle.status.specs.declared.Description.{Description}
use Rattle.status.specs.declared.Audio.{Audio}
use Rattle.status.specs.declared.Audio.TheVariants.{LinearPcm, OtherPurpose}
use Rattle.status.specs.declared.Use.{Use}
use Rattle.status.specs.declared.Use.TheVariants.{Consumer, Professional}

-- not indicated, or reserved with that state
abbrev pub Undeclared : WordLength → Type 0
Undeclared l = (l ≡ word.NotIndicated) ⊎ (l ≡ word.Reserved 0b000)

by-use : (a : Auxiliary) → Undeclared (word_length_of a 0b000)
unfolding word_length_of word_length_up_to20 word_length_up_to24 in_table
by-use auxiliary.NotDefined = inl refl
by-use auxiliary.MainAudio = inl refl
by-use auxiliary.Coordination = inl refl
by-use auxiliary.UserDefined = inr refl
by-use (auxiliary.Reserved y) = inr refl

pub undeclared : (P : Use → Type 0) → P Consumer
    → ((d : Description) → Undeclared d.word_length → P (Professional (LinearPcm d)))
    → ((d : Description) → P (Professional (OtherPurpose d)))
    → (byte0 byte1 byte2 : ℕ) → field 3 3 byte2 ≡ 0b000 → P (meaning_of byte0 byte1 byte2)
unfolding meaning_of described_by
undeclared P consumer linear other byte0 byte1 byte2 e =
    let d = described_by byte0 byte1 byte2 in
    let use-of = auxiliary_of (field 0 3 byte2) in
    let none : Undeclared (word_length_of use-of (field 3 3 byte2)) = subst⁻¹ (λ (x : ℕ). Undeclared (word_length_of use-of x)) e (by-use use-of) in
    pick-cases P (eqb (field 0 1 byte0) 0) Consumer (Professional (pick (eqb (field 1 1 byte0) 0) (LinearPcm d) (OtherPurpose d))) (λ t. consumer)
    (λ f. pick-cases (λ (x : Audio). P (Professional x)) (eqb (field 1 1 byte0) 0) (LinearPcm d) (OtherPurpose d) (λ t. linear d none) (λ g. other d))

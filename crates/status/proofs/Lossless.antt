-- The meaning loses nothing, and its numbers lose nothing: under professional use bytes 0 to 2 can be read back off
-- the numbers, so that no two states are merged. A test that antt computes over the states of each field. Assumes
-- nothing.
use mathlib.Core.Path.{◌≡◌, refl, sym, ap, ◌∙◌}
use mathlib.Core.List.{[], ◌∷◌}
use Prim.Native.Nat.{ℕ, ◌+◌, ◌*◌, ◌/◌, ◌%◌, ◌<◌}
use native.Mathlib.Nat.{div-one}
use native.Mathlib.Omega.{arith}
use borrow.Author.Tests.{ne_eqb}
use lib.Dec.{eqb}
use lib.Pow.{field as above}
use Rattle.bits.specs.Pick.{pick}
use Rattle.bits.proofs.Every.{agree}
use Rattle.bits.proofs.Digits.{digit-cases}
use Rattle.status.specs.declared.Description.{Description}
use Rattle.status.specs.declared.Audio.TheVariants.{LinearPcm, OtherPurpose}
use Rattle.status.specs.declared.Use.TheVariants.{Professional}
use Rattle.status.specs.Meaning.{in_table, emphasis_of, lock_of, rate_of, mode_of, user_of, auxiliary_of, word_length_up_to24, word_length_up_to20, word_length_of, alignment_of, described_by, meaning_of}
use Rattle.status.specs.Numbers.{emphasis_number, lock_number, rate_number, mode_number, user_number, auxiliary_number, word_length_number, alignment_number, numbers_by, numbers_of, consumer_numbers}
use Rattle.status.proofs.Back.{bits_of, word_bits, emphasis_rows, lock_rows, rate_rows, mode_rows, user_rows, auxiliary_rows, alignment_rows, byte0_of, byte1_of, byte2_of, bytes_of}

-- ---- field by field

emphasis-back : (x : ℕ) → x < 8 → bits_of emphasis_rows (emphasis_number (emphasis_of x)).state (emphasis_number (emphasis_of x)).bits ≡ x
unfolding bits_of emphasis_of in_table
emphasis-back = agree 8 (λ x. bits_of emphasis_rows (emphasis_number (emphasis_of x)).state (emphasis_number (emphasis_of x)).bits) (λ x. x) tt

lock-back : (x : ℕ) → x < 2 → bits_of lock_rows (lock_number (lock_of x)) 0 ≡ x
unfolding bits_of lock_of in_table
lock-back = agree 2 (λ x. bits_of lock_rows (lock_number (lock_of x)) 0) (λ x. x) tt

rate-back : (x : ℕ) → x < 4 → bits_of rate_rows (rate_number (rate_of x)) 0 ≡ x
unfolding bits_of rate_of in_table
rate-back = agree 4 (λ x. bits_of rate_rows (rate_number (rate_of x)) 0) (λ x. x) tt

mode-back : (x : ℕ) → x < 16 → bits_of mode_rows (mode_number (mode_of x)).state (mode_number (mode_of x)).bits ≡ x
unfolding bits_of mode_of in_table
mode-back = agree 16 (λ x. bits_of mode_rows (mode_number (mode_of x)).state (mode_number (mode_of x)).bits) (λ x. x) tt

user-back : (x : ℕ) → x < 16 → bits_of user_rows (user_number (user_of x)).state (user_number (user_of x)).bits ≡ x
unfolding bits_of user_of in_table
user-back = agree 16 (λ x. bits_of user_rows (user_number (user_of x)).state (user_number (user_of x)).bits) (λ x. x) tt

auxiliary-back : (x : ℕ) → x < 8 → bits_of auxiliary_rows (auxiliary_number (auxiliary_of x)).state (auxiliary_number (auxiliary_of x)).bits ≡ x
unfolding bits_of auxiliary_of in_table
auxiliary-back =
    agree 8 (λ x. bits_of auxiliary_rows (auxiliary_number (auxiliary_of x)).state (auxiliary_number (auxiliary_of x)).bits) (λ x. x) tt

-- the word length beside each use of the auxiliary bits, bits 0 to 5 of the byte
abbrev word : ℕ → ℕ → ℕ
word auxiliary x =
    word_bits auxiliary (word_length_number (word_length_of (auxiliary_of auxiliary) x)).state
    (word_length_number (word_length_of (auxiliary_of auxiliary) x)).bits

word_back : (x : ℕ) → x < 64 → word (x % 8) (x / 8) ≡ x / 8
unfolding word_bits word_length_of word_length_up_to24 word_length_up_to20 auxiliary_of in_table
word_back = agree 64 (λ x. word (x % 8) (x / 8)) (λ x. x / 8) tt

alignment-back : (x : ℕ) → x < 4 → bits_of alignment_rows (alignment_number (alignment_of x)).state (alignment_number (alignment_of x)).bits ≡ x
unfolding bits_of alignment_of in_table
alignment-back =
    agree 4 (λ x. bits_of alignment_rows (alignment_number (alignment_of x)).state (alignment_number (alignment_of x)).bits) (λ x. x) tt

-- ---- byte by byte

-- byte 0 is its five fields
split : (x : ℕ) → x < 256 → x % 2 + x / 2 % 2 * 2 + x / 4 % 8 * 4 + x / 32 % 2 * 32 + x / 64 % 4 * 64 ≡ x
split = agree 256 (λ x. x % 2 + x / 2 % 2 * 2 + x / 4 % 8 * 4 + x / 32 % 2 * 32 + x / 64 % 4 * 64) (λ x. x) tt

-- three octets, of professional use
pub record ProfessionalBytes (byte0 byte1 byte2 : ℕ) : Type 0 where
  pub octet0 : byte0 < 256
  pub octet1 : byte1 < 256
  pub octet2 : byte2 < 256
  pub professional : byte0 % 2 ≡ 1

module _ (byte0 byte1 byte2 : ℕ) (p : ProfessionalBytes byte0 byte1 byte2) where
  -- the numbers are those of the description, and bit 1
  by-description : numbers_of (meaning_of byte0 byte1 byte2) ≡ numbers_by (byte0 / 2 % 2) (described_by byte0 byte1 byte2)
  unfolding meaning_of numbers_of
  by-description =
      rw (div-one byte0, ne_eqb (byte0 % 2) 0 (omega arith)) (purpose (described_by byte0 byte1 byte2) (byte0 / 2 % 2) (omega arith))
    where
      purpose : (d : Description) (x : ℕ) → x < 2
          → numbers_of (Professional (pick (eqb x 0) (LinearPcm d) (OtherPurpose d))) ≡ numbers_by x d
      purpose d =
          digit-cases (λ (x : ℕ). numbers_of (Professional (pick (eqb x 0) (LinearPcm d) (OtherPurpose d))) ≡ numbers_by x d) refl refl

  byte0-back : byte0_of (numbers_by (byte0 / 2 % 2) (described_by byte0 byte1 byte2)) ≡ byte0
  unfolding byte0_of numbers_by described_by
  byte0-back =
      rw (emphasis-back (byte0 / 4 % 8) (omega arith), lock-back (byte0 / 32 % 2) (omega arith), rate-back (byte0 / 64 % 4) (omega arith))
      (rw p.professional at (split byte0 p.octet0))

  byte1-back : (purpose : ℕ) → byte1_of (numbers_by purpose (described_by byte0 byte1 byte2)) ≡ byte1
  unfolding byte1_of numbers_by described_by
  byte1-back purpose =
      rw (div-one byte1, mode-back (byte1 % 16) (omega arith), user-back (byte1 / 16 % 16) (omega arith)) (omega arith)

  byte2-back : (purpose : ℕ) → byte2_of (numbers_by purpose (described_by byte0 byte1 byte2)) ≡ byte2
  unfolding byte2_of numbers_by described_by
  byte2-back purpose =
      let a : byte2 % 64 % 8 ≡ byte2 % 8 = omega arith in
      let b : byte2 % 64 / 8 ≡ byte2 / 8 % 8 = above byte2 3 3 in
      rw (
        div-one byte2,
        auxiliary-back (byte2 % 8) (omega arith),
        rw (a, b) at (word_back (byte2 % 64) (omega arith)),
        alignment-back (byte2 / 64 % 4) (omega arith),
      ) (omega arith)

  pub read_back : bytes_of (numbers_of (meaning_of byte0 byte1 byte2)) ≡ byte0 ∷ byte1 ∷ byte2 ∷ []
  unfolding bytes_of
  read_back = rw (by-description, byte0-back, byte1-back, byte2-back)

-- two status blocks of professional use with the same numbers, so with the same meaning, have the same bytes 0 to 2
module _ (a0 a1 a2 b0 b1 b2 : ℕ) (a : ProfessionalBytes a0 a1 a2) (b : ProfessionalBytes b0 b1 b2) where
  pub numbers-lose-nothing : numbers_of (meaning_of a0 a1 a2) ≡ numbers_of (meaning_of b0 b1 b2) → a0 ∷ a1 ∷ a2 ∷ [] ≡ b0 ∷ b1 ∷ b2 ∷ []
  numbers-lose-nothing e = sym (read_back a0 a1 a2 a) ∙ ap bytes_of e ∙ read_back b0 b1 b2 b

  pub meaning-loses-nothing : meaning_of a0 a1 a2 ≡ meaning_of b0 b1 b2 → a0 ∷ a1 ∷ a2 ∷ [] ≡ b0 ∷ b1 ∷ b2 ∷ []
  meaning-loses-nothing e = numbers-lose-nothing (ap numbers_of e)

-- three octets of 0 are consumer use, with all its numbers 0
pub nothing-is-consumer : numbers_of (meaning_of 0 0 0) ≡ consumer_numbers
unfolding meaning_of numbers_of
nothing-is-consumer = refl
